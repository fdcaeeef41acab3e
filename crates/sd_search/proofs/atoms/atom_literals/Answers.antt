use Rattle.std.proofs.Common.{sym, ap, ◌∙◌, arith}
use Rattle.sd_term.specs.Bank.{tree_at}
use Rattle.sd_cube.specs.Atoms.{is_atom}
use Rattle.sd_search.specs.Atoms.{atom_literals}
use Rattle.sd_search.proofs.AtomSteps.{without-atom}
use Rattle.sd_search.proofs.atoms.atom_literals.Goals as goal

pub loop-i-preserved-then-not-is_atom : goal.loop-i-preserved-then-not-is_atom
loop-i-preserved-then-not-is_atom c =
    without-atom c.args.terms.now c.args.values.now c.loop-i.i c.loop-i.literals (atom_literals 0 c.args.terms.now c.args.values.now) (omega (arith, c.loop-i-test.true, c.len-i-end.ensures.value)) c.requires
    (ap (λ n. is_atom (tree_at c.args.terms.now n)) (sym c.new.ensures) ∙ sym c.is_atom.ensures ∙ c.if-not-is_atom.true) c.loop-i.invariant
