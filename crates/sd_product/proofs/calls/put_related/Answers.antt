use Rattle.std.proofs.Common.{◌≡◌, ◌∙◌, ◌<◌, [], length, get_or, sym, ap, subst, arith, OnOk}
use Rattle.std.specs.Prelude.{List}
use Rattle.std.proofs.lemmas.Option.{slice_get_within, get_or_from_slice_get}
use Rattle.sd_term.specs.Tree.{Tree}
use Rattle.sd_match.specs.declared.pair.Pair.{Pair}
use Rattle.sd_vcgen.specs.Numbers.{site_at}
use Rattle.sd_product.specs.Claims.{before}
use Rattle.sd_product.specs.Numbers.{Adds}
use Rattle.sd_product.proofs.Numbers.{adds_none}
use Rattle.sd_product.proofs.TableLemmas.{no_pair, numbers_below, pair_says, any_default}
use Rattle.sd_product.proofs.calls.put_related.Goals as goal

pub bounds-claims-place : goal.bounds-claims-place
bounds-claims-place c =
    let h = c.in-Some.ensures in
    let claims = c.args.claims.now in
    slice_get_within claims.first.now c.in-Some.place _ (c.requires.tables.firsts c.in-Some.place (slice_get_within claims.pairs.now c.in-Some.place h.0 h.1))

pub bounds-claims-place-in-Some : goal.bounds-claims-place-in-Some
bounds-claims-place-in-Some c =
    let h = c.in-Some.ensures in
    slice_get_within c.args.claims.now.pairs.now c.in-Some.place h.0 h.1

pub bounds-claims-place-in-Some-2 : goal.bounds-claims-place-in-Some-2
bounds-claims-place-in-Some-2 c =
    let h = c.in-Some.ensures in
    let here = slice_get_within c.args.claims.now.pairs.now c.in-Some.place h.0 h.1 in
    let long = c.requires.tables.long in
    omega (arith, here, long)

pub put_live-requires-clause-numbers : goal.put_live-requires-clause-numbers
put_live-requires-clause-numbers c =
    let h = c.in-Some.ensures in
    let claims = c.args.claims.now in
    let place = c.in-Some.place in
    let lists = claims.candidates.now in
    let here = slice_get_within claims.pairs.now place h.0 h.1 in
    let long = c.requires.tables.long in
    let there : place < length lists = omega (arith, here, long) in
    let first : get_or claims.first.now place 0 ≡ before claims.pairs.now lists place = get_or_from_slice_get claims.first.now place _ 0 (c.requires.tables.firsts place here) in
    let size : length c.as_slice.result.now ≡ length (get_or lists place []) = ap length (c.as_slice.ensures ∙ any_default lists place c.index-claims-place-in-Some.result [] there) in
    let below = numbers_below claims.pairs.now lists place long here in
    let count = c.requires.count in
    omega (arith, first, size, below, count)

pub put_live-requires-clause-old_callee : goal.put_live-requires-clause-old_callee
put_live-requires-clause-old_callee c =
    let h = c.in-Some.ensures in
    ap (λ (p : Pair). p.old) (get_or_from_slice_get c.args.claims.now.pairs.now c.in-Some.place h.0 c.index-claims-place.result h.1) ∙ h.2

pub put_live-requires-clause-new_callee : goal.put_live-requires-clause-new_callee
put_live-requires-clause-new_callee c =
    let h = c.in-Some.ensures in
    ap (λ (p : Pair). p.new) (get_or_from_slice_get c.args.claims.now.pairs.now c.in-Some.place h.0 c.index-claims-place.result h.1) ∙ h.3

pub returns-in-Some : goal.returns-in-Some
returns-in-Some c =
    let a = c.args.bank.now in
    let h = c.in-Some.ensures in
    let claims = c.args.claims.now in
    let place = c.in-Some.place in
    let lists = claims.candidates.now in
    let here = slice_get_within claims.pairs.now place h.0 h.1 in
    let long = c.requires.tables.long in
    let there : place < length lists = omega (arith, here, long) in
    subst (λ (ts : List Tree). OnOk c.put_live.result (Adds a c.args.facts.now c.put_live.new.bank c.put_live.new.facts ts))
    (pair_says c.args.table.now claims.pairs.now lists claims.pair_of_old.now (site_at a c.args.old.now) (site_at a c.args.new.now) place (get_or claims.first.now place 0) h.0 (get_or claims.pairs.now place c.index-claims-place.result) c.as_slice.result.now long c.requires.tables.places h.1 h.2
    (get_or_from_slice_get claims.pairs.now place h.0 c.index-claims-place.result h.1) (c.as_slice.ensures ∙ any_default lists place c.index-claims-place-in-Some.result [] there) (get_or_from_slice_get claims.first.now place _ 0 (c.requires.tables.firsts place here)))
    c.put_live.ensures

pub returns-in-None : goal.returns-in-None
returns-in-None c =
    let a = c.args.bank.now in
    let claims = c.args.claims.now in
    subst (Adds a c.args.facts.now a c.args.facts.now) (sym (no_pair c.args.table.now 0 claims.pairs.now claims.candidates.now (site_at a c.args.old.now) (site_at a c.args.new.now) c.in-None.ensures)) (adds_none a c.args.facts.now c.requires.facts)
