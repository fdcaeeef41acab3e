-- What clap makes of words that don't begin with a hyphen.
use Rattle.std.proofs.Common.{◌≡◌, ◌∙◌, ◌&&◌, ℕ, Bool, cond, true, false, not, refl, ap, ap₂, List, [], ◌∷◌}
use Rattle.std.specs.Prelude.{◌==◌, Some, None, is_some, fold, bytes_eq, option_and_then}
use Rattle.std.specs.Option.{option_map_or}
use Rattle.clap.specs.Lexer.{long_of, long_of_rest, short_of, short_of_rest, strip_byte}
use Rattle.clap.specs.Words.{App, Shape, Text, Kinds, built, fault_of, matches_of}
use Rattle.clap.specs.Walk.{Held, Step, Waiting, idle, option, positional, trailing, Walk, after_step, finished, is_empty, long_or_other, nothing_held, plain_word, settled, short_or_plain, subcommand_met, subcommand_or_other, walk, walk_from, walked, word_met}
use Rattle.clap.specs.Kinds.{or_else}
use Rattle.clap.specs.Faults.{bundle_fault, built_fault, check_fault, defaults_fault, entered_fault, flag_word_fault, other_fault, settle_fault, step_fault, turn_fault, walk_fault}
use Rattle.clap.specs.Simple.{entered, names_of}
use Rattle.sd_words.specs.Commands.{rows_of_words}
use Rattle.sd_words.specs.Laws.{IsPlain}

is_false : (b : Bool) → not b ≡ true → b ≡ false
is_false false e = refl
is_false true e = absurd (cc)

-- ---- what a plain word looks like

no_hyphen : (word : Text) → IsPlain word → strip_byte 45 word ≡ None
no_hyphen [] p = refl
no_hyphen (x ∷ xs) p = ap (λ b. cond b (Some xs) None) (is_false (x == 45) p)

no_dashes : (word : Text) → IsPlain word → bytes_eq word (45 ∷ 45 ∷ []) ≡ false
no_dashes [] p = refl
no_dashes (x ∷ xs) p = ap (λ b. b && bytes_eq xs (45 ∷ [])) (is_false (x == 45) p)

no_long : (word : Text) → IsPlain word → long_of word ≡ None
no_long word p = ap (λ o. option_and_then long_of_rest (option_and_then (strip_byte 45) o)) (no_hyphen word p)

no_short : (word : Text) → IsPlain word → short_of word ≡ None
no_short word p = ap (option_and_then short_of_rest) (no_hyphen word p)

no_command : (waiting : Waiting) (word : Text) → subcommand_met [] waiting word ≡ None
no_command idle word = refl
no_command (option id) word = refl
no_command positional word = refl

-- ---- what clap makes of it

-- where a walk stands between two words
abbrev pub between : Held → Waiting → ℕ → Walk
between h waiting at = record { held = h; waiting = waiting; position = at; is_trailing = false; stopped = None }

-- The words lead from here to there, and clap finds no fault in them.
pub record Passes (s : Shape) (here : Walk) (words : List Text) (there : Walk) : Type 0 where
  pub walk : fold (walked s.rules []) here words ≡ there
  pub fault : walk_fault s [] here words ≡ []

module _ (s : Shape) where
  pub no-more : (w : Walk) → Passes s w [] w
  unfolding walk_fault
  no-more w = record { walk = refl; fault = refl }

  -- a word that is written out
  pub flag-passes : (w there : Walk) (word : Text) (rest : List Text) → turn_fault s [] w word ≡ [] → Passes s (walked s.rules [] w word) rest there → Passes s w (word ∷ rest) there
  unfolding walk_fault
  flag-passes w there word rest fine r = record {
    walk = r.walk;
    fault = ap (λ kinds. or_else kinds (walk_fault s [] (walked s.rules [] w word) rest)) fine ∙ r.fault;
  }

  module _ (h : Held) (waiting : Waiting) (at : ℕ) (word : Text) (p : IsPlain word) where
    taken : Held × Step
    taken = plain_word s.rules waiting word h

    -- a plain word is no flag
    plain-met : word_met s.rules [] false waiting at word h ≡ plain_word s.rules waiting word h
    plain-met =
        ap (λ o. subcommand_or_other s.rules o waiting at word h) (no_command waiting word)
        ∙ ap (λ b. cond b (h, trailing at) (long_or_other s.rules waiting word (long_of word) h)) (no_dashes word p)
        ∙ ap (λ o. long_or_other s.rules waiting word o h) (no_long word p)
        ∙ ap (λ o. short_or_plain s.rules waiting word o h) (no_short word p)

    no_fault : other_fault s (subcommand_met [] waiting word) word h ≡ []
    no_fault =
        ap (λ o. other_fault s o word h) (no_command waiting word)
        ∙ ap (λ b. cond b [] (flag_word_fault s.rules s.args_override_self (long_of word) word h)) (no_dashes word p)
        ∙ ap (λ o. flag_word_fault s.rules s.args_override_self o word h) (no_long word p)
        ∙ ap (λ o. option_map_or (λ flags. bundle_fault s.rules s.args_override_self flags h) o []) (no_short word p)

    pub plain-passes : (there : Walk) (rest : List Text)
        → step_fault s at (plain_word s.rules waiting word h).0 (plain_word s.rules waiting word h).1 ≡ []
        → Passes s (after_step s.rules word (between h waiting at) (plain_word s.rules waiting word h).0 (plain_word s.rules waiting word h).1) rest there
        → Passes s (between h waiting at) (word ∷ rest) there
    unfolding walked walk_fault
    plain-passes there rest fine r = record {
      walk = ap (λ m. fold (walked s.rules []) (after_step s.rules word (between h waiting at) m.0 m.1) rest) plain-met ∙ r.walk;
      fault = ap₂ (λ kinds m. or_else (or_else kinds (step_fault s at m.0 m.1)) (walk_fault s [] (after_step s.rules word (between h waiting at) m.0 m.1) rest)) no_fault plain-met
          ∙ ap (λ kinds. or_else kinds (walk_fault s [] (after_step s.rules word (between h waiting at) (plain_word s.rules waiting word h).0 (plain_word s.rules waiting word h).1) rest)) fine
          ∙ r.fault;
    }

-- ---- the end of the words

-- the faults of a command at the end of its words
abbrev pub end_fault : App → Walk → Kinds → Kinds
end_fault a w kinds =
    or_else kinds (or_else (entered_fault a w.stopped) (or_else (settle_fault a.top.rules a.top.args_override_self w.held)
    (or_else (defaults_fault (settled a.top.rules w.held).rows a.top.rules)
    (check_fault a.top (finished a.top.rules w.held) (is_some (entered a w.stopped))))))

split : (a : App) (words : List Text) → built_fault a nothing_held words ≡ end_fault a (walk a.top.rules (names_of a) nothing_held words) (walk_fault a.top (names_of a) (walk_from nothing_held) words)
split a words = refl

pub passed-rows : (command : App) (first : Text) (words : List Text) (there : Walk) → command.top.no_binary_name ≡ false → names_of (built command) ≡ []
    → Passes (built command).top (walk_from nothing_held) words there → end_fault (built command) there [] ≡ []
    → rows_of_words command (first ∷ words) ≡ Some (finished (built command).top.rules there.held)
passed-rows command first words there named alone r fine =
    let a = built command in
    let used : cond command.top.no_binary_name (first ∷ words) words ≡ words = ap (λ b. cond b (first ∷ words) words) named in
    let walked_to : walk a.top.rules (names_of a) nothing_held words ≡ there = ap (λ n. walk a.top.rules n nothing_held words) alone ∙ r.walk in
    let free : walk_fault a.top (names_of a) (walk_from nothing_held) words ≡ [] = ap (λ n. walk_fault a.top n (walk_from nothing_held) words) alone ∙ r.fault in
    let fault : fault_of command (first ∷ words) ≡ [] = ap (built_fault a nothing_held) used ∙ split a words ∙ ap₂ (end_fault a) walked_to free ∙ fine in
    let rows : matches_of command (first ∷ words) ≡ finished a.top.rules there.held =
    ap (λ ws. finished a.top.rules (walk a.top.rules (names_of a) nothing_held ws).held) used ∙ ap (λ (w : Walk). finished a.top.rules w.held) walked_to in
    ap₂ (λ kinds found. cond (is_empty kinds) (Some found) None) fault rows
