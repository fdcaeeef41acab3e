-- More height changes only the answer that a token is too deep.
use Rattle.std.proofs.Common.{◌≡◌, ℕ, zero, suc, ◌+◌, true, false, cond, length, refl, ap, ◌∙◌, subst, arith}
use Rattle.std.specs.Prelude.{Bool}
use Rattle.sd_parse.specs.declared.class.TokenClass.{TokenClass}
use Rattle.sd_parse.specs.Grammar.{Tokens}
use Rattle.sd_parse.specs.Reading.{Deep, Step, Got, Bad, Reader, and_then, ahead, class_of, many, all, deeper}

-- t is what s is, unless s is a fault of depth
pub data Lifts {A : Type 0} (s t : Step A) : Type 0 where
  same : s ≡ t → Lifts s t
  deep : {rest : Tokens} → s ≡ Bad Deep rest → Lifts s t

pub lift_bind : {A B : Type 0} (s t : Step A) (f h : A → Reader B) → Lifts s t → ((x : A) (rest : Tokens) → Lifts (f x rest) (h x rest)) → Lifts (and_then s f) (and_then t h)
lift_bind {A} s t f h (same e) next = subst (λ t. Lifts (and_then s f) (and_then t h)) e (go s)
  where
    go : (s : Step A) → Lifts (and_then s f) (and_then s h)
    go (Got x rest) = next x rest
    go (Bad k rest) = same refl
lift_bind s t f h (deep e) next = deep (ap (λ s. and_then s f) e)

pub lift_deeper : {A : Type 0} (n : ℕ) (p q : Reader A) (ts : Tokens) → Lifts (p ts) (q ts) → Lifts (deeper n p ts) (deeper (suc n) q ts)
lift_deeper zero p q ts l = deep refl
lift_deeper (suc n) p q ts l = l

pub lift_both : {A : Type 0} (s t u : Step A) → Lifts s t → Lifts t u → Lifts s u
lift_both s t u (same e) (same f) = same (e ∙ f)
lift_both s t u (same e) (deep f) = deep (e ∙ f)
lift_both s t u (deep e) l = deep e

-- what one step of height does, many do
pub lift_more : {A : Type 0} (p : ℕ → Reader A) → ((d : ℕ) (ts : Tokens) → Lifts (p d ts) (p (suc d) ts)) → (k d : ℕ) (ts : Tokens) → Lifts (p d ts) (p (d + k) ts)
lift_more p up zero d ts = let e : d ≡ d + 0 = omega arith in same (ap (λ d. p d ts) e)
lift_more p up (suc k) d ts =
    let e : suc (d + k) ≡ d + suc k = omega arith in
    lift_both _ _ _ (lift_more p up k d ts) (subst (λ n. Lifts (p (d + k) ts) (p n ts)) e (up (d + k) ts))

module _ {A B : Type 0} (begins : TokenClass → Bool) (item wider : Reader A) (add : B → A → B) (up : (ts : Tokens) → Lifts (item ts) (wider ts)) where
  pub lift_many : (n : ℕ) (acc : B) (ts : Tokens) → Lifts (many begins item add n acc ts) (many begins wider add n acc ts)
  unfolding many
  lift_many zero acc ts = same refl
  lift_many (suc n) acc ts = by_test (begins (class_of (ahead ts))) (λ x rest. lift_many n (add acc x) rest)
    where
      by_test : (b : Bool) → ((x : A) (rest : Tokens) → Lifts (many begins item add n (add acc x) rest) (many begins wider add n (add acc x) rest))
          → Lifts (cond {A = Reader B} b (λ ts. and_then (item ts) (λ x. many begins item add n (add acc x))) (λ ts. Got acc ts) ts) (cond {A = Reader B} b (λ ts. and_then (wider ts) (λ x. many begins wider add n (add acc x))) (λ ts. Got acc ts) ts)
      by_test true next = lift_bind (item ts) (wider ts) _ _ (up ts) next
      by_test false next = same refl

  pub lift_all : (acc : B) (ts : Tokens) → Lifts (all begins item add acc ts) (all begins wider add acc ts)
  lift_all acc ts = lift_many (suc (length ts)) acc ts
