use Rattle.std.proofs.Common.{◌+◌, refl, ap, subst, drop, get_or}
use Rattle.std.specs.Prelude.{map}
use Rattle.sd_term.specs.declared.build.Kind.TheVariants.{Eq}
use Rattle.sd_term.specs.Tree.{Tree}
use Rattle.sd_cand.specs.declared.candidate.Relation.{Relation}
use Rattle.sd_vcgen.specs.Numbers.{Denotes}
use Rattle.sd_vcgen.proofs.Loops.{drop_split}
use Rattle.sd_product.specs.Relations.{term_of}
use Rattle.sd_product.specs.Numbers.{store_at}
use Rattle.sd_product.proofs.Numbers.{within_later, store_later, adding_one}
use Rattle.sd_product.proofs.relations.put_relations.Goals as goal

pub put_relation-requires-clause-old : goal.put_relation-requires-clause-old
put_relation-requires-clause-old c = within_later c.args.bank.now c.loop-relation.bank c.args.old.now c.loop-relation.invariant.kept c.requires.old

pub put_relation-requires-clause-new : goal.put_relation-requires-clause-new
put_relation-requires-clause-new c = within_later c.args.bank.now c.loop-relation.bank c.args.new.now c.loop-relation.invariant.kept c.requires.new

pub loop-relation-preserved : goal.loop-relation-preserved
loop-relation-preserved c =
    let a = c.args.bank.now in
    let b = c.loop-relation.bank in
    let d = c.put_relation.new.bank in
    let i = c.loop-relation.invariant in
    let index = c.loop-relation.relation-index in
    let all = c.args.relations.now in
    let none : Relation = record { place = 0; kind = Eq } in
    let f : Relation → Tree = term_of c.args.places.now (store_at a c.args.old.now) (store_at a c.args.new.now) in
    let x : Relation = get_or all index none in
    let is : Denotes d c.in_ok-term.term (f x) = subst (Denotes d c.in_ok-term.term) (λ j. term_of c.args.places.now (store_later a b c.args.old.now i.kept c.requires.old j) (store_later a b c.args.new.now i.kept c.requires.new j) x) c.in_ok-term.ensures.term in
    adding_one a c.args.facts.now b c.loop-relation.facts d c.push.new.self c.in_ok-term.term (f x) (map f (drop index all)) (map f (drop (index + 1) all)) (map f all) i c.in_ok-term.ensures.kept is c.in_ok-push.ensures.ok
    (ap (map f) (drop_split all index x none c.loop-relation-test.true refl))
