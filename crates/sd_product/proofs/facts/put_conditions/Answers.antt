use Rattle.std.proofs.Common.{subst}
use Rattle.std.specs.Prelude.{map}
use Rattle.sd_product.specs.Relations.{term_of}
use Rattle.sd_product.specs.Numbers.{Adds}
use Rattle.sd_product.proofs.SideLemmas.{side_inputs_are, inputs_within}
use Rattle.sd_product.proofs.facts.put_conditions.Goals as goal

pub put_relations-requires-clause-old : goal.put_relations-requires-clause-old
put_relations-requires-clause-old c =
    let e = c.side_inputs.ensures in
    inputs_within c.args.bank.now c.side_inputs.result c.args.old.now e.ins e.outs e.globals c.requires.old

pub put_relations-requires-clause-new : goal.put_relations-requires-clause-new
put_relations-requires-clause-new c =
    let e = c.side_inputs-2.ensures in
    inputs_within c.args.bank.now c.side_inputs-2.result c.args.new.now e.ins e.outs e.globals c.requires.new

pub returns : goal.returns
returns c =
    let a = c.args.bank.now in
    let e = c.side_inputs.ensures in
    let f = c.side_inputs-2.ensures in
    let old = side_inputs_are a c.side_inputs.result c.args.old.now e.ins e.outs e.globals in
    let new = side_inputs_are a c.side_inputs-2.result c.args.new.now f.ins f.outs f.globals in
    subst (Adds a c.args.facts.now c.put_relations.new.bank c.put_relations.new.facts) (λ i. map (term_of (c.as_slice.ensures i) (old i) (new i)) (c.as_slice-2.ensures i)) c.in_ok-put_relations.ensures
