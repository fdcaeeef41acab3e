use Rattle.std.proofs.Common.{ℕ, ◌<◌, List, length, sym, subst, arith}
use Rattle.std.specs.Prelude.{All, map}
use Rattle.sd_term.specs.Bank.{tree_at}
use Rattle.sd_vcgen.specs.Body.{term_in}
use Rattle.sd_vcgen.specs.Numbers.{DenoteAll}
use Rattle.sd_vcgen.proofs.axioms.put_axioms.Goals as goal

pub put_expressions-requires : goal.put_expressions-requires
put_expressions-requires c =
    let a = c.args.bank.now in
    record {
      slots = subst (All (λ id. id < length a)) (sym c.new-slots.ensures) (λ k d lt. absurd (omega (arith, lt)));
      globals = subst (All (λ id. id < length a)) (sym c.new-globals.ensures) (λ k d lt. absurd (omega (arith, lt)));
    }

pub returns-clause-terms : goal.returns-clause-terms
returns-clause-terms c =
    let a = c.args.bank.now in
    subst (DenoteAll c.put_expressions.new.bank c.in_ok-terms.terms) (λ i. map (term_in (c.as_slice-functions.ensures i) (record { slots = map (tree_at a) (c.new-slots.ensures i); globals = map (tree_at a) (c.new-globals.ensures i) })) (c.as_slice.ensures i)) c.in_ok-terms.ensures.terms
