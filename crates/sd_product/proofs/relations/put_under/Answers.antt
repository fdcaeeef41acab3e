use Rattle.std.proofs.Common.{◌≡◌, ◌∙◌, ℕ, ◌-◌, refl, ap, sym, drop, get_or, arith}
use Rattle.std.specs.Prelude.{map, List}
use Rattle.std.proofs.Math.Seq.{drop-length}
use Rattle.sd_term.specs.declared.build.Kind.TheVariants.{Eq}
use Rattle.sd_term.specs.Tree.{Tree}
use Rattle.sd_term.specs.Bank.{tree_at}
use Rattle.sd_term.specs.Build.{or_of, not_of}
use Rattle.sd_cand.specs.declared.candidate.Relation.{Relation}
use Rattle.sd_vcgen.proofs.Numbers.{extends_self, extends_then}
use Rattle.sd_product.specs.Relations.{term_of}
use Rattle.sd_product.specs.Query.{under}
use Rattle.sd_product.specs.Numbers.{store_at}
use Rattle.sd_product.proofs.Numbers.{within_later, store_later, under_more}
use Rattle.sd_product.proofs.relations.put_under.Goals as goal

pub put_relation-requires-clause-old : goal.put_relation-requires-clause-old
put_relation-requires-clause-old c = within_later c.args.bank.now c.loop-left.bank c.args.old.now c.loop-left.invariant.kept c.requires.old

pub put_relation-requires-clause-new : goal.put_relation-requires-clause-new
put_relation-requires-clause-new c = within_later c.args.bank.now c.loop-left.bank c.args.new.now c.loop-left.invariant.kept c.requires.new

pub loop-left-init : goal.loop-left-init
loop-left-init c =
    let a = c.args.bank.now in
    record {
      left = omega arith;
      term = record {
        within = c.requires.claim;
        tree = ap (λ (l : List Relation). under (map (term_of c.args.places.now (store_at a c.args.old.now) (store_at a c.args.new.now)) l) (tree_at a c.args.claim)) (sym (drop-length c.args.when.now));
      };
      kept = extends_self a;
    }

pub loop-left-preserved : goal.loop-left-preserved
loop-left-preserved c =
    let a = c.args.bank.now in
    let b = c.loop-left.bank in
    let d = c.put_relation.new.bank in
    let e = c.implies.new.self in
    let i = c.loop-left.invariant in
    let left = c.loop-left.left in
    let all = c.args.when.now in
    let none : Relation = record { place = 0; kind = Eq } in
    let f : Relation → Tree = term_of c.args.places.now (store_at a c.args.old.now) (store_at a c.args.new.now) in
    let x : Relation = get_or all (left - 1) none in
    let condition = c.in_ok-condition.ensures in
    let claimed = c.in_ok-claimed.ensures in
    let holds : tree_at d c.in_ok-condition.condition ≡ f x = condition.term.tree ∙ (λ j. term_of c.args.places.now (store_later a b c.args.old.now i.kept c.requires.old j) (store_later a b c.args.new.now i.kept c.requires.new j) x) in
    let others : tree_at d c.loop-left.term ≡ under (map f (drop left all)) (tree_at a c.args.claim) = condition.kept.kept c.loop-left.term i.term.within ∙ i.term.tree in
    record {
      left = omega (arith, i.left);
      term = record {
        within = claimed.number;
        tree = claimed.tree ∙ (λ j. or_of (not_of (holds j)) (others j)) ∙ sym (under_more f all left x none (tree_at a c.args.claim) c.loop-left-test.true i.left refl);
      };
      kept = extends_then a d e (extends_then a b d i.kept condition.kept) claimed.kept;
    }

pub returns-clause-term : goal.returns-clause-term
returns-clause-term c =
    let a = c.args.bank.now in
    let i = c.loop-left.invariant in
    let none : c.loop-left.left ≡ 0 = omega arith in
    record {
      within = i.term.within;
      tree = i.term.tree ∙ ap (λ (n : ℕ). under (map (term_of c.args.places.now (store_at a c.args.old.now) (store_at a c.args.new.now)) (drop n c.args.when.now)) (tree_at a c.args.claim)) none;
    }
