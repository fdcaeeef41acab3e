use Rattle.std.proofs.Common.{◌∙◌, sym, ap}
use Rattle.std.specs.Prelude.{Some, None, if◌then◌else◌}
use Rattle.sd_base.proofs.SortLemmas.{same_sort-test}
use Rattle.sd_base.specs.declared.Var.{Var}
use Rattle.sd_match.proofs.PlaceLemmas.{place_none, place_not_past, place_within, found_is}
use Rattle.sd_match.proofs.SharedLemmas.{no_place, typed_place}
use Rattle.sd_match.proofs.shared.partner.Goals as goal

pub returns-in-None : goal.returns-in-None
returns-in-None c = record { place = sym (no_place 0 c.args.news.now c.args.old.now (place_none (λ (v : Var). v.name) 0 c.args.news.now c.args.old.now.name (sym (c.requires.places c.args.old.now.name) ∙ (sym c.find.ensures ∙ c.in-None.is)))); within = tt }

pub returns-in-None-get : goal.returns-in-None-get
returns-in-None-get c =
    let at = sym (c.requires.places c.args.old.now.name) ∙ (sym c.find.ensures ∙ c.in-Some.is) in
    absurd (place_not_past (λ (v : Var). v.name) c.args.news.now c.args.old.now.name c.in-Some.place at c.in-None-get.ensures.lookup.0)

pub returns-then-is_same_sort : goal.returns-then-is_same_sort
returns-then-is_same_sort c =
    let at = sym (c.requires.places c.args.old.now.name) ∙ (sym c.find.ensures ∙ c.in-Some.is) in
    let here = sym (found_is (λ (v : Var). v.name) c.args.news.now c.args.old.now.name c.in-Some.place c.in-Some-get.new.now at c.in-Some-get.ensures.lookup.1) in
    let same = sym (same_sort-test c.args.old.now.sort c.in-Some-get.new.now.sort c.is_same_sort.result c.is_same_sort.ensures) ∙ c.if-is_same_sort.true in
    record { place = sym (typed_place 0 c.args.news.now c.args.old.now c.in-Some.place c.in-Some-get.new.now c.requires.distinct at here ∙ ap (λ b. if b then Some c.in-Some.place else None) same); within = place_within (λ (v : Var). v.name) c.args.news.now c.args.old.now.name c.in-Some.place at }

pub returns-else-is_same_sort : goal.returns-else-is_same_sort
returns-else-is_same_sort c =
    let at = sym (c.requires.places c.args.old.now.name) ∙ (sym c.find.ensures ∙ c.in-Some.is) in
    let here = sym (found_is (λ (v : Var). v.name) c.args.news.now c.args.old.now.name c.in-Some.place c.in-Some-get.new.now at c.in-Some-get.ensures.lookup.1) in
    let same = sym (same_sort-test c.args.old.now.sort c.in-Some-get.new.now.sort c.is_same_sort.result c.is_same_sort.ensures) ∙ c.if-is_same_sort.false in
    record { place = sym (typed_place 0 c.args.news.now c.args.old.now c.in-Some.place c.in-Some-get.new.now c.requires.distinct at here ∙ ap (λ b. if b then Some c.in-Some.place else None) same); within = tt }
