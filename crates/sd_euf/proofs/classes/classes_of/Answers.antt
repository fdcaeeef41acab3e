use Rattle.std.proofs.Common.{◌≡◌, ◌∙◌, ap, length, arith, subst, sym, true}
use Rattle.sd_term.specs.declared.node.Op.TheVariants as op
use Rattle.sd_term.specs.Bank.{tree_at}
use Rattle.sd_euf.specs.Judged.{IsPair}
use Rattle.sd_euf.specs.Links.{class_at, moved, IsEqAt, AreMerged}
use Rattle.sd_euf.proofs.ClassLemmas.{merged-none, merged-skip, merged-more, are-classes}
use Rattle.sd_euf.proofs.classes.classes_of.Goals as goal

pub loop-i-init : goal.loop-i-init
loop-i-init c = merged-none c.args.terms.now c.args.values.now c.in_ok-classes.classes c.len-i-end.ensures.distinct c.in_ok-classes.ensures.long c.in_ok-classes.ensures.own

pub loop-i-preserved-in_default : goal.loop-i-preserved-in_default
loop-i-preserved-in_default c =
    merged-skip c.args.terms.now c.args.values.now c.loop-i.classes c.loop-i.i c.loop-i.invariant
    (λ e. c.in_default.ensures.none (subst (λ n. IsEqAt c.args.terms.now c.args.values.now n true) (sym c.new.ensures) e))

pub loop-i-preserved : goal.loop-i-preserved
loop-i-preserved c =
    let left = ap (λ ls. class_at ls c.number.result) c.as_slice.ensures ∙ ap (class_at c.loop-i.classes) c.number.ensures in
    let right = ap (λ ls. class_at ls c.number-in-loop-i.result) c.as_slice-in-loop-i.ensures ∙ ap (class_at c.loop-i.classes) c.number-in-loop-i.ensures in
    merged-more c.args.terms.now c.args.values.now c.loop-i.classes c.merge.new.classes c.loop-i.i c.in-Some.sides c.loop-i.invariant
    (subst (λ n. IsEqAt c.args.terms.now c.args.values.now n true) c.new.ensures c.in-Some.ensures.some)
    (subst (λ n. IsPair c.args.terms.now op.Eq (tree_at c.args.terms.now n) c.in-Some.sides) c.new.ensures c.in-Some.ensures.pair)
    c.merge.ensures.long
    (λ k h. c.merge.ensures.moved k h ∙ (λ i. moved (right i) (left i) (class_at c.loop-i.classes k)))

pub returns-clause-classes : goal.returns-clause-classes
returns-clause-classes c =
    let all : c.loop-i.i ≡ length c.args.terms.now = omega (arith, c.loop-i-test.false) in
    are-classes c.args.terms.now c.args.values.now c.loop-i.classes (subst (AreMerged c.args.terms.now c.args.values.now c.loop-i.classes) all c.loop-i.invariant)
