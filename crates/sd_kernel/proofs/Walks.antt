-- a list of steps is accepted exactly where it is a proof
use Rattle.std.proofs.Common.{◌≡◌, ℕ, ◌+◌, List, [], ◌∷◌, ◌++◌, refl, sym, ap, ◌∙◌, subst, append_assoc, append-nil}
use Rattle.sd_term.specs.Tree.{Tree}
use Rattle.sd_kernel.specs.declared.step.Step.{Step}
use Rattle.sd_kernel.specs.declared.step.StepCause.{StepCause}
use Rattle.sd_kernel.specs.declared.step.StepCause.TheVariants.{Shape}
use Rattle.sd_kernel.specs.declared.step.Verdict.{Verdict}
use Rattle.sd_kernel.specs.declared.step.Verdict.TheVariants.{Accepted, Rejected}
use Rattle.sd_kernel.specs.Known.{Trail}
use Rattle.sd_kernel.specs.Steps.{Outcome, bad, leaves, outcome}
use Rattle.sd_term.specs.Numbering.{numbered}
use Rattle.sd_kernel.specs.Proof.{start, ProofTree, step, ProofTrees, none, more, steps_of, steps_of_all, Closes, CloseAll, Proves, fails, continues, after, lines_of, judged, verdict}

-- after the steps of trees that close some branches the others are opened, whatever the line
abbrev pub AcceptedAfter : List Tree → List Trail → List Step → Type 0
AcceptedAfter terms opened steps = (line : ℕ) → judged (terms, opened) line steps ≡ Accepted

mutual
  pub closes-judged : (p : ProofTree) (terms : List Tree) (trail : Trail) (end : List Tree) (others : List Trail) (rest : List Step) → Closes terms trail p end
      → AcceptedAfter end others rest → AcceptedAfter terms (trail ∷ others) (steps_of p ++ rest)
  closes-judged (step s ps) terms trail end others rest c k = λ line.
      subst (λ o. (elim (after others o) as (λ _. Verdict) [ fails n d ↦ Rejected (line + n) d | continues s' ↦ judged s' (line + lines_of s) (steps_of_all ps ++ rest) ]) ≡ Accepted) (sym c.2)
      (all-judged ps c.0 c.1 end others rest c.3 k (line + lines_of s))

  pub all-judged : (ps : ProofTrees) (terms : List Tree) (opened : List Trail) (end : List Tree) (others : List Trail) (rest : List Step) → CloseAll terms opened ps end
      → AcceptedAfter end others rest → AcceptedAfter terms (opened ++ others) (steps_of_all ps ++ rest)
  all-judged none terms [] end others rest c k = λ line. subst (λ t. judged (t, others) line rest ≡ Accepted) (sym c) (k line)
  all-judged none terms (b ∷ bs) end others rest c k = absurd c
  all-judged (more p ps) terms [] end others rest c k = absurd c
  all-judged (more p ps) terms (b ∷ bs) end others rest c k = λ line.
      subst (λ ss. judged (terms, b ∷ (bs ++ others)) line ss ≡ Accepted) (sym (append_assoc (steps_of p) (steps_of_all ps) rest))
      (closes-judged p terms b c.0 (bs ++ others) (steps_of_all ps ++ rest) c.1 (all-judged ps c.0 bs end others rest c.2 k) line)

-- trees for some branches and then others are trees for the first and trees for the others
pub split-all : (first others : List Trail) (ps : ProofTrees) (terms end : List Tree) → CloseAll terms (first ++ others) ps end
    → (qs : ProofTrees) × (rs : ProofTrees) × (mid : List Tree) × CloseAll terms first qs mid × CloseAll mid others rs end × (steps_of_all qs ++ steps_of_all rs ≡ steps_of_all ps)
split-all [] others ps terms end c = (none, ps, terms, refl, c, refl)
split-all (b ∷ first) others none terms end c = absurd c
split-all (b ∷ first) others (more p ps) terms end c =
    let m = split-all first others ps c.0 end c.2 in
    (more p m.0, m.1, m.2, (c.0, c.1, m.3), m.4, append_assoc (steps_of p) (steps_of_all m.0) (steps_of_all m.1) ∙ ap (λ l. steps_of p ++ l) m.5)

not-accepted : (line : ℕ) (c : StepCause) → Rejected line c ≡ Accepted → ⊥
not-accepted line c e = cc

pub judged-closes : (ss : List Step) (terms : List Tree) (opened : List Trail) (line : ℕ) → judged (terms, opened) line ss ≡ Accepted
    → (ps : ProofTrees) × (end : List Tree) × (steps_of_all ps ≡ ss) × CloseAll terms opened ps end
judged-closes [] terms [] line e = (none, terms, refl, refl)
judged-closes [] terms (b ∷ bs) line e = absurd (not-accepted line Shape e)
judged-closes (s ∷ ss) terms [] line e = absurd (not-accepted (line + 0) Shape e)
judged-closes (s ∷ ss) terms (b ∷ bs) line e = go (outcome terms b s) refl e (λ mid branches k. judged-closes ss mid (branches ++ bs) (line + lines_of s) k)
  where
    go : (o : Outcome) → outcome terms b s ≡ o → elim (after bs o) as (λ _. Verdict) [ fails n c ↦ Rejected (line + n) c | continues s' ↦ judged s' (line + lines_of s) ss ] ≡ Accepted
        → ((mid : List Tree) (branches : List Trail) → judged (mid, branches ++ bs) (line + lines_of s) ss ≡ Accepted → (ps : ProofTrees) × (end : List Tree) × (steps_of_all ps ≡ ss) × CloseAll mid (branches ++ bs) ps end)
        → (ps : ProofTrees) × (end : List Tree) × (steps_of_all ps ≡ s ∷ ss) × CloseAll terms (b ∷ bs) ps end
    go (bad n c) is e ih = absurd (not-accepted (line + n) c e)
    go (leaves mid branches) is e ih =
        let r = ih mid branches e in
        let m = split-all branches bs r.0 mid r.1 r.3 in
        (more (step s m.0) m.1, r.1, ap (λ l. s ∷ l) (m.5 ∙ r.2), (m.2, (mid, branches, is, m.3), m.4))

one-tree : (ps : ProofTrees) (terms : List Tree) (trail : Trail) (end : List Tree) (ss : List Step) → steps_of_all ps ≡ ss → CloseAll terms (trail ∷ []) ps end
    → (p : ProofTree) × (mid : List Tree) × (steps_of p ≡ ss) × Closes terms trail p mid
one-tree none terms trail end ss e c = absurd c
one-tree (more p none) terms trail end ss e c = (p, c.0, sym (append-nil (steps_of p)) ∙ e, c.1)
one-tree (more p (more q ps)) terms trail end ss e c = absurd c.2

-- the steps are accepted exactly where they are a tree that closes the branch of the facts
pub accepted-proves : (facts : List Tree) (steps : List Step) → verdict facts steps ≡ Accepted → Proves facts steps
accepted-proves facts steps e =
    let r = judged-closes steps (numbered facts) (start facts ∷ []) 0 e in
    one-tree r.0 (numbered facts) (start facts) r.1 steps r.2 r.3

pub proves-accepted : (facts : List Tree) (steps : List Step) → Proves facts steps → verdict facts steps ≡ Accepted
proves-accepted facts steps p =
    subst (λ ss. judged (numbered facts, start facts ∷ []) 0 ss ≡ Accepted) (append-nil (steps_of p.0) ∙ p.2)
    (closes-judged p.0 (numbered facts) (start facts) p.1 [] [] p.3 (λ line. refl) 0)
