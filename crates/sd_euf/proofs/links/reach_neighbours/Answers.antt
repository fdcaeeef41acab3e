use Rattle.std.proofs.Common.{◌≡◌, ◌<◌, List, Option, Bool, ◌∙◌, ap, length, refl, subst, sym, true, Some}
use Rattle.std.proofs.lemmas.Option.{same_Some}
use Rattle.sd_term.specs.Tree.{Tree}
use Rattle.sd_term.specs.Bank.{tree_at}
use Rattle.sd_kernel.specs.Steps.{other_side}
use Rattle.sd_euf.specs.declared.links.Link.{Link}
use Rattle.sd_euf.specs.Links.{IsEqAt, AreMore, link_at}
use Rattle.sd_euf.proofs.LinkLemmas.{more-push, links-push, reached-more, still-all, here-at, reached-by, reached-last}
use Rattle.sd_euf.proofs.links.reach_neighbours.Goals as goal

pub loop-i-preserved-in_default : goal.loop-i-preserved-in_default
loop-i-preserved-in_default c =
    let terms : List Tree = c.args.terms.now in
    let here : c.new-here.result ≡ (link_at c.args.links.now c.args.at).term = c.new-here.ensures ∙ ap (λ ls. (link_at ls c.args.at).term) c.as_slice.ensures in
    record {
      links = c.loop-i.invariant.links;
      more = c.loop-i.invariant.more;
      reached = reached-more terms c.args.values.now c.loop-i.links c.args.at c.loop-i.i c.loop-i.invariant.reached (λ t e o.
          absurd (c.in_default.ensures.none (subst (λ n. IsEqAt terms c.args.values.now n true) (sym c.new.ensures) e) t
          ((λ i. other_side (tree_at terms (c.new.ensures i)) (sym (here-at terms c.args.values.now c.args.links.now c.loop-i.links c.args.at c.new-here.result c.loop-i.invariant.more c.requires.at here) i)) ∙ o)));
    }

pub loop-i-preserved-in-Some-place_of : goal.loop-i-preserved-in-Some-place_of
loop-i-preserved-in-Some-place_of c =
    let terms : List Tree = c.args.terms.now in
    let here : c.new-here.result ≡ (link_at c.args.links.now c.args.at).term = c.new-here.ensures ∙ ap (λ ls. (link_at ls c.args.at).term) c.as_slice.ensures in
    record {
      links = c.loop-i.invariant.links;
      more = c.loop-i.invariant.more;
      reached = reached-more terms c.args.values.now c.loop-i.links c.args.at c.loop-i.i c.loop-i.invariant.reached (λ t e o.
          reached-by terms c.args.values.now c.loop-i.links c.as_slice-in-loop-i.result.now c.in-Some-place_of.field-0 t (tree_at terms c.in-Some.other) c.as_slice-in-loop-i.ensures c.in-Some-place_of.ensures.within
          c.in-Some-place_of.ensures.some
          (same_Some (tree_at terms c.in-Some.other) t (sym c.in-Some.ensures.some
          ∙ (λ i. other_side (tree_at terms (c.new.ensures i)) (sym (here-at terms c.args.values.now c.args.links.now c.loop-i.links c.args.at c.new-here.result c.loop-i.invariant.more c.requires.at here) i)) ∙ o)));
    }

pub loop-i-preserved : goal.loop-i-preserved
loop-i-preserved c =
    let terms : List Tree = c.args.terms.now in
    let values : List (Option Bool) = c.args.values.now in
    let here : c.new-here.result ≡ (link_at c.args.links.now c.args.at).term = c.new-here.ensures ∙ ap (λ ls. (link_at ls c.args.at).term) c.as_slice.ensures in
    let x : Link = record { term = c.number.result; by = c.loop-i.i; from = c.args.at } in
    let more : AreMore c.args.links.now c.push.new.self = more-push c.args.links.now c.loop-i.links c.push.new.self x c.loop-i.invariant.more c.in_ok-push.ensures.ok in
    let at : c.args.at < length c.loop-i.links = c.loop-i.invariant.more.longer c.args.at c.requires.at in
    record {
      links = links-push terms values c.loop-i.links c.push.new.self x c.loop-i.invariant.links
          (record {
            from = at;
            term = subst (λ n. n < length terms) (sym c.number.ensures) c.in-Some.ensures.below;
            by = subst (λ n. IsEqAt terms values n true) c.new.ensures c.in-Some.ensures.by;
            other = (λ i. other_side (tree_at terms (sym c.new.ensures i)) (here-at terms values c.args.links.now c.loop-i.links c.args.at c.new-here.result c.loop-i.invariant.more c.requires.at here i)) ∙ c.in-Some.ensures.some
                ∙ ap (λ n. Some (tree_at terms n)) (sym c.number.ensures);
          })
          c.in_ok-push.ensures.ok;
      more = more;
      reached = reached-more terms values c.push.new.self c.args.at c.loop-i.i
          (still-all terms values c.loop-i.links c.push.new.self c.args.at c.loop-i.i
          (more-push c.loop-i.links c.loop-i.links c.push.new.self x (record { longer = λ k h. h; kept = λ k h. refl }) c.in_ok-push.ensures.ok) at c.loop-i.invariant.reached)
          (λ t e o. reached-last terms values c.loop-i.links c.push.new.self x t c.in_ok-push.ensures.ok
          (ap (tree_at terms) c.number.ensures ∙ same_Some (tree_at terms c.in-Some.other) t (sym c.in-Some.ensures.some
          ∙ (λ i. other_side (tree_at terms (c.new.ensures i)) (sym (here-at terms values c.args.links.now c.push.new.self c.args.at c.new-here.result more c.requires.at here) i)) ∙ o)));
    }
