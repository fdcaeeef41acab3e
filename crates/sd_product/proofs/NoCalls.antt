-- Bodies without calls.
use Rattle.std.proofs.Common.{◌≡◌, ℕ, ◌+◌, List, [], ◌∷◌, refl, ◌∙◌}
use Rattle.std.specs.Prelude.{true}
use Rattle.std.specs.List.{AllByRecursion}
use Rattle.sd_core.specs.declared.CoreStmt.{CoreStmt, Assign, If', Call, Assume, Fail, Return, Row_of-CoreStmt, end_of-CoreStmt, more_of-CoreStmt}
use Rattle.sd_core.specs.declared.CoreProc.{CoreProc}
use Rattle.sd_core.specs.declared.CoreProgram.{CoreProgram}
use Rattle.sd_core.specs.Propositional.{IsPropositional, ArePropositional, IsPropositionalProc, IsPropositionalCore}
use Rattle.sd_core.specs.Boolean.{IsBoolean, AreBoolean, IsBooleanProc, IsBooleanCore}
use Rattle.sd_term.specs.Tree.{Tree}
use Rattle.sd_term.specs.Build.{not_of, and_of}
use Rattle.sd_vcgen.specs.Body.{Context, State, Site, constant, term_in, count, row_count, step, steps, all_steps, begun, body_of}

-- ---- a body without calls has no sites

module _ (C : Context) where
  mutual
    no-sites : (t : CoreStmt) (k : ℕ) (path : Tree) (s : State) → IsPropositional t → (step C t k path s).sites ≡ s.sites
    no-sites (Assign ps es) k path s h = refl
    no-sites (If' c n a m b) k path s h =
        let here = term_in C.program.functions s.store c in
        row-no-sites b (k + row_count C a) (and_of path (not_of here)) (steps C a k (and_of path here) s) h.2 ∙ row-no-sites a k (and_of path here) s h.1
    no-sites (Call ps q es) k path s h = absurd h
    no-sites (Assume c) k path s h = refl
    no-sites Fail k path s h = refl
    no-sites Return k path s h = refl

    row-no-sites : {n : _} → (ts : Row_of-CoreStmt n) (k : ℕ) (path : Tree) (s : State) → ArePropositional ts → (steps C ts k path s).sites ≡ s.sites
    row-no-sites end_of-CoreStmt k path s h = refl
    row-no-sites (more_of-CoreStmt t ts) k path s h =
        row-no-sites ts (k + count C t) path (step C t k path s) h.1 ∙ no-sites t k path s h.0

  all-no-sites : (ts : List CoreStmt) (k : ℕ) (path : Tree) (s : State) → AllByRecursion IsPropositional ts → (all_steps C ts k path s).sites ≡ s.sites
  all-no-sites [] k path s h = refl
  all-no-sites (t ∷ ts) k path s h =
      all-no-sites ts (k + count C t) path (step C t k path s) h.1 ∙ no-sites t k path s h.0

  pub body-no-sites : (p : CoreProc) (k : ℕ) (ins globals : List Tree) → AllByRecursion IsPropositional p.body → ◌≡◌ {A = List Site} (body_of C p k ins globals).sites []
  body-no-sites p k ins globals h = all-no-sites p.body k (constant true) (begun p ins globals) h

-- ---- a program over truth values that calls nothing is over truth values

mutual
  statement-boolean : (t : CoreStmt) → IsPropositional t → IsBoolean t
  statement-boolean (Assign ps es) h = h
  statement-boolean (If' c n a m b) h = (h.0, row-boolean a h.1, row-boolean b h.2)
  statement-boolean (Call ps q es) h = absurd h
  statement-boolean (Assume c) h = h
  statement-boolean Fail h = tt
  statement-boolean Return h = tt

  row-boolean : {n : _} → (ts : Row_of-CoreStmt n) → ArePropositional ts → AreBoolean ts
  row-boolean end_of-CoreStmt h = tt
  row-boolean (more_of-CoreStmt t ts) h = (statement-boolean t h.0, row-boolean ts h.1)

statements-boolean : (ts : List CoreStmt) → AllByRecursion IsPropositional ts → AllByRecursion IsBoolean ts
statements-boolean [] h = tt
statements-boolean (t ∷ ts) h = (statement-boolean t h.0, statements-boolean ts h.1)

procs-boolean : (ps : List CoreProc) → AllByRecursion IsPropositionalProc ps → AllByRecursion IsBooleanProc ps
procs-boolean [] h = tt
procs-boolean (p ∷ ps) h =
    (record { ins = h.0.ins; outs = h.0.outs; locals = h.0.locals; body = statements-boolean p.body h.0.body }, procs-boolean ps h.1)

pub program-boolean : (P : CoreProgram) → IsPropositionalCore P → IsBooleanCore P
program-boolean P h = record { globals = h.globals; functions = h.functions; axioms = h.axioms; uniques = h.uniques; procs = procs-boolean P.procs h.procs }
