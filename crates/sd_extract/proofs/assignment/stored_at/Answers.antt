use Rattle.std.proofs.Common.{◌≡◌, ◌∙◌, sym, ap, ◌+◌, ◌-◌, ◌<◌, length, take, get_or, arith}
use Rattle.sd_extract.specs.Scopes.{names_in, reads}
use Rattle.sd_extract.specs.Names.{at_place, place_of, core_of}
use Rattle.sd_extract.specs.Extract.{cores}
use Rattle.sd_extract.proofs.CodeExpressions.{stored_more}
use Rattle.sd_extract.proofs.assignment.stored_at.Goals as goal

pub indices-preserved : goal.indices-preserved
indices-preserved c =
    let m = at_place (place_of (names_in c.args.scope.now) c.args.left.now.name) c.args.left.now.name in
    let same = c.as_slice-indices.ensures in
    let next : c.indices.place ≡ (c.indices.place - 1) + 1 = omega arith in
    let within : c.indices.place - 1 < length c.args.left.now.indices = omega arith in
    record {
      within = omega arith;
      e = stored_more (names_in c.args.scope.now) c.args.left.now.indices (c.indices.place - 1) c.indices.place c.index-indices-place.result m c.indices.e c.in_ok-e.e c.args.new c.in_ok-map.map c.in_ok-index.index next within
          (c.index-indices-place.is ∙ ap (λ is. get_or is (c.indices.place - 1) c.index-indices-place.result) same) (c.in_ok-index.ensures ∙ ap (λ x. core_of (names_in c.args.scope.now) x.kind) (sym c.index-indices-place.is)) (c.in_ok-map.ensures ∙ ap (λ is. reads m (cores (names_in c.args.scope.now) (take (c.indices.place - 1) is))) same) c.indices.invariant.e c.in_ok-e.ensures;
    }
