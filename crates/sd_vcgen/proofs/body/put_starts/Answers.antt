use Rattle.std.proofs.Common.{◌∙◌, ap, drop, ◌+◌}
use Rattle.std.specs.Prelude.{map}
use Rattle.sd_base.specs.declared.Sort.{Sort}
use Rattle.sd_base.specs.declared.Var.{Var}
use Rattle.sd_term.specs.declared.node.Head.TheVariants as head
use Rattle.sd_term.specs.Tree.{leaf, Tree}
use Rattle.sd_vcgen.proofs.Numbers.{extends_then}
use Rattle.sd_vcgen.proofs.Loops.{drop_split, more_within, more_trees}
use Rattle.sd_vcgen.proofs.body.put_starts.Goals as goal

pub loop-variable-preserved : goal.loop-variable-preserved
loop-variable-preserved c =
    let a = c.loop-variable.bank in
    let b = c.put_tree.new.self in
    let i = c.loop-variable.invariant in
    let kept = c.in_ok-start.ensures.kept in
    let f : Var → Tree = λ v. leaf (head.Start v.sort) in
    record {
      slots = more_within a b c.loop-variable.slots c.push.new.self c.in_ok-start.start i.slots.within kept c.in_ok-push.ensures.ok c.in_ok-start.ensures.number;
      so_far = more_trees a b c.loop-variable.slots c.push.new.self c.in_ok-start.start (f c.variable-item.result) (map f (drop (c.loop-variable.variable-index + 1) c.args.variables.now)) _ _ i.slots.within kept c.in_ok-push.ensures.ok
          (c.in_ok-start.ensures.tree ∙ ap (λ (s : Sort). leaf (head.Start s)) c.in_ok-clone_of.ensures)
          (ap (map f) (drop_split c.args.variables.now c.loop-variable.variable-index c.variable-item.result c.variable-item.result c.loop-variable-test.true c.variable-item.is))
          i.so_far;
      kept = extends_then c.args.bank.now a b i.kept kept;
    }
