-- no valuation makes the facts of an accepted list of steps true
use Rattle.std.proofs.Common.{◌≡◌, ℕ, ◌+◌, List, [], ◌∷◌, ◌++◌, ◌≤◌, length, drop, map, flat_map, refl, sym, ap, ◌∙◌, Bool, true, false, cond, ◌⊎◌, inl, inr, ◌↔◌}
use Rattle.std.specs.List.{list_any}
use Rattle.std.proofs.lemmas.List.{drop_all}
use Rattle.sd_term.specs.Tree.{Tree, leaf, call, below, subterms, same_tree}
use Rattle.sd_term.specs.Sorts.{PartsWellSorted, AllWellSorted as AllSorted}
use Rattle.sd_term.specs.Truth.{Valuation, MakesTrue, IsUnsatisfiable}
use Rattle.sd_kernel.specs.declared.step.Step.{Step}
use Rattle.sd_kernel.specs.declared.step.StepCause.{StepCause}
use Rattle.sd_kernel.specs.declared.step.StepCause.TheVariants.{Shape as Shape'}
use Rattle.sd_kernel.specs.declared.step.Verdict.{Verdict}
use Rattle.sd_kernel.specs.declared.step.Verdict.TheVariants.{Accepted, Rejected}
use Rattle.sd_kernel.specs.Known.{Trail}
use Rattle.sd_kernel.specs.Steps.{Outcome, bad, leaves, outcome}
use Rattle.sd_term.specs.Numbering.{with_new, numbered}
use Rattle.sd_term.specs.Bank.{tree_at}
use Rattle.sd_kernel.specs.Proof.{State, start, fails, continues, after, lines_of, at_end, judged, verdict, Proves}
use Rattle.sd_kernel.proofs.Walks.{accepted-proves, proves-accepted}
use Rattle.sd_kernel.proofs.Says.{AllTrue}
use Rattle.sd_kernel.proofs.Members.{sorted-append, AllAbout, all-about-more, all-about-append, start-about}
use Rattle.sd_kernel.proofs.Grows.{AreTerms, step-grows, numbered-terms}
use Rattle.sd_kernel.proofs.Sound.{AnyTrue, step-covers}

any-append : (v : Valuation) (a b : List Trail) → AnyTrue v a ⊎ AnyTrue v b → AnyTrue v (a ++ b)
any-append v [] b (inl x) = absurd x
any-append v [] b (inr y) = y
any-append v (t ∷ a) b (inl x) = elim x as (λ _. AnyTrue v (t ∷ (a ++ b))) [ inl p ↦ inl p | inr q ↦ inr (any-append v a b (inl q)) ]
any-append v (t ∷ a) b (inr y) = inr (any-append v a b (inr y))

not-accepted : (line : ℕ) (c : StepCause) → Rejected line c ≡ Accepted → ⊥
not-accepted line c e = cc

pub judged-false : (v : Valuation) → (ss : List Step) (terms : List Tree) (branches : List Trail) (line : ℕ) → AreTerms terms → AllAbout terms branches → judged (terms, branches) line ss ≡ Accepted → AnyTrue v branches → ⊥
judged-false v [] terms [] line w b e a = a
judged-false v [] terms (t ∷ ts) line w b e a = not-accepted line Shape' e
judged-false v (s ∷ ss) terms [] line w b e a = a
judged-false v (s ∷ ss) terms (t ∷ ts) line w b e a = go (outcome terms t s) refl e (λ mid next_branches x k f y. judged-false v ss mid (next_branches ++ ts) (line + lines_of s) x k f y)
  where
    go : (o : Outcome) → outcome terms t s ≡ o → elim (after ts o) as (λ _. Verdict) [ fails n c ↦ Rejected (line + n) c | continues s' ↦ judged s' (line + lines_of s) ss ] ≡ Accepted
        → ((mid : List Tree) (next_branches : List Trail) → AreTerms mid → AllAbout mid (next_branches ++ ts) → judged (mid, next_branches ++ ts) (line + lines_of s) ss ≡ Accepted → AnyTrue v (next_branches ++ ts) → ⊥) → ⊥
    go (bad n c) is e ih = not-accepted (line + n) c e
    go (leaves mid branches) is e ih =
        let grows = step-grows terms t w b.0 mid branches s is in
        ih mid branches grows.are_terms (all-about-append mid branches ts grows.about (all-about-more terms mid ts grows.kept b.1)) e
        (any-append v branches ts (covered (λ h. step-covers v terms w t b.0 h mid branches s is) a))
      where
        covered : (AllTrue v t → AnyTrue v branches) → AllTrue v t ⊎ AnyTrue v ts → AnyTrue v branches ⊎ AnyTrue v ts
        covered f (inl h) = inl (f h)
        covered f (inr h) = inr h

-- the subterms of a well-sorted tree are well sorted
below-sorted : (t : Tree) → PartsWellSorted t → AllSorted (below t)
below-sorted (leaf h) w = tt
below-sorted (call f x) w = sorted-append (below f) (below x ++ x ∷ []) (below-sorted f w.0) (sorted-append (below x) (x ∷ []) (below-sorted x w.1.0) ((w.1.0, w.1.1), tt))

subterms-sorted : (ts : List Tree) → AllSorted ts → AllSorted (flat_map subterms ts)
subterms-sorted [] w = tt
subterms-sorted (t ∷ ts) w = sorted-append (subterms t) (flat_map subterms ts) (sorted-append (below t) (t ∷ []) (below-sorted t w.0.0) (w.0, tt)) (subterms-sorted ts w.1)

with_new-sorted : (done ts : List Tree) → AllSorted done → AllSorted ts → AllSorted (with_new done ts)
with_new-sorted done [] a b = a
with_new-sorted done (t ∷ ts) a b = go (list_any (λ u. same_tree u t) done) (with_new-sorted done ts a b.1) (with_new-sorted (done ++ t ∷ []) ts (sorted-append done (t ∷ []) a (b.0, tt)) b.1)
  where
    go : (c : Bool) → AllSorted (with_new done ts) → AllSorted (with_new (done ++ t ∷ []) ts) → AllSorted (cond c (with_new done ts) (with_new (done ++ t ∷ []) ts))
    go true p q = p
    go false p q = q

pub numbered-sorted : (facts : List Tree) → AllSorted facts → AllSorted (numbered facts)
numbered-sorted facts w = with_new-sorted [] (flat_map subterms facts) tt (subterms-sorted facts w)

start-true : (v : Valuation) (facts : List Tree) → MakesTrue v facts → AllTrue v (start facts)
start-true v [] m = tt
start-true v (t ∷ ts) m = (m.0, start-true v ts m.1)

-- an accepted list of steps refutes its facts
pub accepted-unsatisfiable : (facts : List Tree) (steps : List Step) → AllSorted facts → verdict facts steps ≡ Accepted → IsUnsatisfiable facts
accepted-unsatisfiable facts steps w e v m = judged-false v steps (numbered facts) (start facts ∷ []) 0 (numbered-terms facts (numbered-sorted facts w)) (start-about facts, tt) e (inl (start-true v facts m))

pub verdict-exact : (facts : List Tree) (steps : List Step) (r : Verdict) → r ≡ verdict facts steps → (r ≡ Accepted) ↔ Proves facts steps
verdict-exact facts steps r e = (λ a. accepted-proves facts steps (sym e ∙ a), λ p. e ∙ proves-accepted facts steps p)

pub verdict-sound : (facts : List Tree) (steps : List Step) (r : Verdict) → r ≡ verdict facts steps → r ≡ Accepted → AllSorted facts → IsUnsatisfiable facts
verdict-sound facts steps r e a w = accepted-unsatisfiable facts steps w (sym e ∙ a)

-- the verdict over terms and facts that are those of the query
pub judged-numbered : (terms facts : List Tree) (own : List ℕ) (steps : List Step) → terms ≡ numbered facts → map (λ f. tree_at terms f) own ≡ facts
    → judged (terms, start (map (λ f. tree_at terms f) own) ∷ []) 0 steps ≡ verdict facts steps
judged-numbered terms facts own steps e f = λ i. judged (e i, start (f i) ∷ []) 0 steps

-- a walk without an open branch has read all steps
pub end-accepted : (s : State) (line i : ℕ) (steps : List Step) → ((s.1 ≡ [] → ⊥) → ⊥) → length steps ≤ i → Accepted ≡ judged s line (drop i steps)
end-accepted s line i steps n h = sym (ap (λ l. judged s line l) (drop_all i steps h) ∙ closed s.1 n)
  where
    closed : (bs : List Trail) → ((bs ≡ [] → ⊥) → ⊥) → at_end bs line ≡ Accepted
    closed [] n = refl
    closed (b ∷ bs) n = absurd (n (λ e. cc))
