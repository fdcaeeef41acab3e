use Rattle.std.proofs.Common.{◌<◌, ◌≡◌, [], ◌∷◌, ◌++◌, ◌∙◌, ap, length, arith, inl, inr, subst, sym}
use Rattle.std.proofs.lemmas.Bool.{cases_lt}
use Rattle.sd_euf.specs.declared.links.Link.{Link}
use Rattle.sd_euf.specs.Links.{AreReached, link_at}
use Rattle.sd_euf.proofs.LinkLemmas.{links-root, still-all}
use Rattle.sd_euf.proofs.links.links_from.Goals as goal

pub places-init : goal.places-init
places-init c =
    let x : Link = record { term = c.number.result; by = 0; from = 0 } in
    let is : c.push.new.self ≡ [] ++ x ∷ [] = c.in_ok-push.ensures.ok ∙ ap (λ ls. ls ++ x ∷ []) c.new-links.ensures in
    record {
      links = links-root c.args.terms.now c.args.values.now c.push.new.self x (subst (λ n. n < length c.args.terms.now) (sym c.number.ensures) c.requires.root) is;
      root = ap (λ ls. (link_at ls 0).term) is ∙ c.number.ensures;
      reached = λ k h. absurd (omega (arith, h));
    }

pub places-preserved : goal.places-preserved
places-preserved c =
    let more = c.in_ok-reach_neighbours.ensures.more in
    record {
      links = c.in_ok-reach_neighbours.ensures.links;
      root = ap (λ l. l.term) (more.kept 0 c.places.invariant.links.some) ∙ c.places.invariant.root;
      reached = λ k h. elim (cases_lt k c.places.at) [
        | inl lt ↦ still-all c.args.terms.now c.args.values.now c.places.links c.reach_neighbours.new.links k (length c.args.terms.now) more (omega (arith, lt, c.places-test.true, c.len.ensures)) (c.places.invariant.reached k lt)
        | inr ge ↦ (let same : c.places.at ≡ k = omega (arith, h, ge) in subst (λ n. AreReached c.args.terms.now c.args.values.now c.reach_neighbours.new.links n (length c.args.terms.now)) same c.in_ok-reach_neighbours.ensures.reached)
      ];
    }

pub returns-clause-reached : goal.returns-clause-reached
returns-clause-reached c = λ k h. c.places.invariant.reached k (omega arith)
