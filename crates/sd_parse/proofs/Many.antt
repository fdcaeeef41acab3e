-- A turn of the code's loops over items.
use Rattle.std.proofs.Common.{◌≡◌, ℕ, zero, suc, ◌+◌, ◌-◌, ◌<◌, ◌≤◌, true, false, length, refl, ap, sym, ◌∙◌, subst, arith}
use Rattle.std.specs.Prelude.{Bool, Err}
use Rattle.sd_parse.specs.declared.cursor.Fault.{Fault as CodeFault}
use Rattle.sd_parse.specs.declared.cursor.Fault.TheVariants as fault
use Rattle.sd_parse.specs.declared.class.TokenClass.{TokenClass}
use Rattle.sd_parse.specs.Grammar.{Tokens}
use Rattle.sd_parse.specs.Reading.{Syntax, Step, Got, Bad, Reader, and_then, ahead, class_of, many, all, Gives}

-- what a reader that failed gives, whatever should have followed
pub gives_err : {A B : Type 0} (s : Step A) (f : A → Reader B) (e : CodeFault) (new : Tokens) → Gives s (Err e) new → Gives (and_then s f) (Err e) new
gives_err s f fault.NoMemory new g = tt
gives_err s f fault.Syntax new g = ap (λ s. and_then s f) g
gives_err s f fault.Deep new g = ap (λ s. and_then s f) g

module _ {A B : Type 0} (begins : TokenClass → Bool) (item : Reader A) (add : B → A → B) where
  pub starts : (acc : B) (ts : Tokens) (n : ℕ) → n ≡ suc (length ts) → all begins item add acc ts ≡ many begins item add (n - 0) acc ts
  starts acc ts n e = let same : suc (length ts) ≡ n - 0 = omega arith in ap (λ n. many begins item add n acc ts) same

  stops : (n : ℕ) (acc : B) (ts : Tokens) → begins (class_of (ahead ts)) ≡ false → many begins item add (suc n) acc ts ≡ Got acc ts
  unfolding many
  stops n acc ts e = rw e refl

  turn_reads : (n : ℕ) (acc : B) (ts : Tokens) → begins (class_of (ahead ts)) ≡ true → many begins item add (suc n) acc ts ≡ and_then (item ts) (λ x. many begins item add n (add acc x))
  unfolding many
  turn_reads n acc ts e = rw e refl

  turn : (n at : ℕ) (acc : B) (ts : Tokens) → at < n → many begins item add (n - at) acc ts ≡ many begins item add (suc (n - (at + 1))) acc ts
  turn n at acc ts below = let e : n - at ≡ suc (n - (at + 1)) = omega arith in ap (λ n. many begins item add n acc ts) e

  module _ (step : Step B) (n at : ℕ) (acc : B) (ts : Tokens) (reads : step ≡ many begins item add (n - at) acc ts) where
    pub ends : at < n → begins (class_of (ahead ts)) ≡ false → step ≡ Got acc ts
    ends below e = reads ∙ turn n at acc ts below ∙ stops (n - (at + 1)) acc ts e

    pub turn_at : at < n → begins (class_of (ahead ts)) ≡ true → step ≡ and_then (item ts) (λ x. many begins item add (n - (at + 1)) (add acc x))
    turn_at below e = reads ∙ turn n at acc ts below ∙ turn_reads (n - (at + 1)) acc ts e

    pub turn_faults : (e : CodeFault) (new : Tokens) → at < n → begins (class_of (ahead ts)) ≡ true → Gives (item ts) (Err e) new → Gives step (Err e) new
    turn_faults e new below b g = subst (λ s. Gives s (Err e) new) (sym (turn_at below b)) (gives_err (item ts) (λ x. many begins item add (n - (at + 1)) (add acc x)) e new g)

    pub next : (x : A) (rest : Tokens) (more : B) → at < n → begins (class_of (ahead ts)) ≡ true → item ts ≡ Got x rest → more ≡ add acc x → step ≡ many begins item add (n - (at + 1)) more rest
    next x rest more below b g e = turn_at below b ∙ ap (λ s. and_then s (λ x. many begins item add (n - (at + 1)) (add acc x))) g ∙ ap (λ y. many begins item add (n - (at + 1)) y rest) (sym e)

    pub runs_out : n ≤ at → step ≡ Bad Syntax ts
    unfolding many
    runs_out past = let e : n - at ≡ zero = omega arith in reads ∙ ap (λ n. many begins item add n acc ts) e
