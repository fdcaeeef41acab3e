-- What plain words name.
use Rattle.std.proofs.Common.{◌≡◌, ◌≢◌, ◌⊎◌, ◌∙◌, ℕ, Bool, cond, true, false, not, inl, inr, refl, sym, ap, ap₂, arith, ◌&&◌, List, [], ◌∷◌, codes}
use Rattle.std.specs.Prelude.{Option, Some, None, option_and_then, option_map, bytes_eq}
use Rattle.std.proofs.lemmas.Slice.Eq.{bytes_eq-Decides}
use Rattle.sd_words.specs.Numbers.{number_to}
use Rattle.sd_words.proofs.NumberLemmas.{number-decimal}
use Rattle.clap.specs.Words.{Shape, Text, built}
use Rattle.clap.specs.Walk.{Walk, nothing_held, plain_word, after_step, walk_from, walked}
use Rattle.clap.proofs.OnLiterals.{clap_on_literals}
use Rattle.sd_words.specs.Commands.{verify_command, replay_command}
use Rattle.sd_words.specs.Words.{JobNames, is_another_file, verify_job, verify_of, replay_job, job_of}
use Rattle.sd_words.specs.Laws.{AnyNames, IsPlain, PlainVerify, PlainCertificate, PlainLeaves, PlainReplay, PlainWorkers, compared, replayed}
use Rattle.sd_words.proofs.PlainWords.{Passes, flag-passes, no-more, passed-rows, plain-passes}

abbrev verify_shape : Shape
verify_shape = (built verify_command).top

abbrev replay_shape : Shape
replay_shape = (built replay_command).top

-- after one more plain word
abbrev next : Shape → Walk → Text → Walk
next s w word = after_step s.rules word w (plain_word s.rules w.waiting word w.held).0 (plain_word s.rules w.waiting word w.held).1

module _ (old new : Text) (p : IsPlain old) (q : IsPlain new) where
  abbrev one : Walk
  one = next verify_shape (walk_from nothing_held) old

  abbrev two : Walk
  two = next verify_shape one new

  texts_pass : (words : List Text) (there : Walk) → Passes verify_shape two words there → Passes verify_shape (walk_from nothing_held) (old ∷ new ∷ words) there
  unfolding clap_on_literals
  texts_pass words there r =
      plain-passes verify_shape (walk_from nothing_held).held (walk_from nothing_held).waiting 1 old p there (new ∷ words) refl
      (plain-passes verify_shape one.held one.waiting 2 new q there words refl r)

pub plain-verify : PlainVerify
unfolding clap_on_literals
plain-verify old new p q =
    ap (option_and_then verify_job) (passed-rows verify_command (codes "verify") (old ∷ new ∷ []) (two old new p q) refl refl
    (texts_pass old new p q [] (two old new p q) (no-more verify_shape (two old new p q))) refl)

-- ---- an option after the two texts

module _ (old new word : Text) (p : IsPlain old) (q : IsPlain new) (r : IsPlain word) where
  -- after the name of an option
  abbrev named : Text → Walk
  named flag = walked verify_shape.rules [] (two old new p q) flag

  abbrev given : Text → Walk
  given flag = next verify_shape (named flag) word

  abbrev line : Text → List Text
  line flag = codes "verify" ∷ old ∷ new ∷ flag ∷ word ∷ []

  certificate-job : job_of (line (codes "--certificate")) ≡ verify_of (Some old) (Some new) (Some 1) (Some 2000) (Some word)
  unfolding clap_on_literals
  certificate-job =
      let flag = codes "--certificate" in
      ap (option_and_then verify_job) (passed-rows verify_command (codes "verify") (old ∷ new ∷ flag ∷ word ∷ []) (given flag) refl refl
      (texts_pass old new p q (flag ∷ word ∷ []) (given flag) (flag-passes verify_shape (two old new p q) (given flag) flag (word ∷ []) refl
      (plain-passes verify_shape (named flag).held (named flag).waiting 3 word r (given flag) [] refl (no-more verify_shape (given flag))))) refl)

  leaves-job : job_of (line (codes "--leaves")) ≡ verify_of (Some old) (Some new) (Some 1) (number_to 20000 word) None
  unfolding clap_on_literals
  leaves-job =
      let flag = codes "--leaves" in
      ap (option_and_then verify_job) (passed-rows verify_command (codes "verify") (old ∷ new ∷ flag ∷ word ∷ []) (given flag) refl refl
      (texts_pass old new p q (flag ∷ word ∷ []) (given flag) (flag-passes verify_shape (two old new p q) (given flag) flag (word ∷ []) refl
      (plain-passes verify_shape (named flag).held (named flag).waiting 3 word r (given flag) [] refl (no-more verify_shape (given flag))))) refl)

  workers-job : job_of (line (codes "--workers")) ≡ verify_of (Some old) (Some new) (number_to 64 word) (Some 2000) None
  unfolding clap_on_literals
  workers-job =
      let flag = codes "--workers" in
      ap (option_and_then verify_job) (passed-rows verify_command (codes "verify") (old ∷ new ∷ flag ∷ word ∷ []) (given flag) refl refl
      (texts_pass old new p q (flag ∷ word ∷ []) (given flag) (flag-passes verify_shape (two old new p q) (given flag) flag (word ∷ []) refl
      (plain-passes verify_shape (named flag).held (named flag).waiting 3 word r (given flag) [] refl (no-more verify_shape (given flag))))) refl)

another : (file old new : Text) → file ≢ old → file ≢ new → is_another_file (Some file) old new ≡ true
another file old new a b = ap₂ (λ x y. not x && not y) (differs file old a) (differs file new b)
  where
    differs : (x y : Text) → x ≢ y → bytes_eq x y ≡ false
    differs x y n = test (bytes_eq x y) refl
      where
        test : (b : Bool) → bytes_eq x y ≡ b → b ≡ false
        test false e = refl
        test true e = absurd (n ((bytes_eq-Decides x y).0 e))

no_and : (b : Bool) → (b && false) ≡ false
no_and true = refl
no_and false = refl

one_of_two : (file old new : Text) → (file ≡ old) ⊎ (file ≡ new) → is_another_file (Some file) old new ≡ false
one_of_two file old new (inl e) = ap (λ b. not b && not (bytes_eq file new)) ((bytes_eq-Decides file old).1 e)
one_of_two file old new (inr e) = ap (λ b. not (bytes_eq file old) && not b) ((bytes_eq-Decides file new).1 e) ∙ no_and (not (bytes_eq file old))

pub plain-certificate : PlainCertificate
plain-certificate old new file p q r =
    let job = certificate-job old new file p q r in (
      λ a b. job ∙ ap (λ t. cond t (compared old new 1 2000 (Some file)) None) (another file old new a b),
      λ e. job ∙ ap (λ t. cond t (compared old new 1 2000 (Some file)) None) (one_of_two file old new e),
    )

-- ---- numbers

leaves_from : (old new : Text) (n : ℕ) (o : Option ℕ) → verify_of (Some old) (Some new) (Some 1) o None ≡ compared old new 1 n None → o ≡ Some n
leaves_from old new n None e = absurd (cc)
leaves_from old new n (Some m) e = let task = ap (option_map (λ (job : JobNames). job.task)) e in cc

workers_from : (old new : Text) (n : ℕ) (o : Option ℕ) → verify_of (Some old) (Some new) o (Some 2000) None ≡ compared old new n 2000 None → o ≡ Some n
workers_from old new n None e = absurd (cc)
workers_from old new n (Some m) e = let task = ap (option_map (λ (job : JobNames). job.task)) e in cc

pub plain-leaves : PlainLeaves
plain-leaves old new word n p q r =
    let job = leaves-job old new word p q r in
    let number = number-decimal 20000 n word (omega arith) in
    (λ e. number.0 (leaves_from old new n (number_to 20000 word) (sym job ∙ e)), λ k. job ∙ ap (λ o. verify_of (Some old) (Some new) (Some 1) o None) (number.1 k))

pub plain-workers : PlainWorkers
plain-workers old new word n p q r =
    let job = workers-job old new word p q r in
    let number = number-decimal 64 n word (omega arith) in
    (λ e. number.0 (workers_from old new n (number_to 64 word) (sym job ∙ e)), λ k. job ∙ ap (λ o. verify_of (Some old) (Some new) o (Some 2000) None) (number.1 k))

-- ---- `replay`

module _ (old new file : Text) (p : IsPlain old) (q : IsPlain new) (r : IsPlain file) where
  abbrev first : Walk
  first = next replay_shape (walk_from nothing_held) old

  abbrev second : Walk
  second = next replay_shape first new

  abbrev third : Walk
  third = next replay_shape second file

  replay-job : job_of (codes "replay" ∷ old ∷ new ∷ file ∷ []) ≡ replayed old new file
  unfolding clap_on_literals
  replay-job =
      ap (option_and_then replay_job) (passed-rows replay_command (codes "replay") (old ∷ new ∷ file ∷ []) third refl refl
      (plain-passes replay_shape (walk_from nothing_held).held (walk_from nothing_held).waiting 1 old p third (new ∷ file ∷ []) refl
      (plain-passes replay_shape first.held first.waiting 2 new q third (file ∷ []) refl
      (plain-passes replay_shape second.held second.waiting 3 file r third [] refl (no-more replay_shape third)))) refl)

pub plain-replay : PlainReplay
plain-replay = replay-job

-- ---- words of any kind

pub any-names : AnyNames
unfolding clap_on_literals
any-names old new file = (
  refl,
  λ a b. ap (λ t. cond t (compared old new 1 2000 (Some file)) None) (another file old new a b),
  refl,
)
