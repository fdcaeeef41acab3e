-- The entries of one pair more are listed.
use Rattle.std.proofs.Common.{◌≡◌, ◌<◌, ◌+◌, ◌++◌, map, List, length, ap, sym, ◌∙◌, subst, arith}
use Rattle.sd_kernel.specs.declared.Proved.{Proved}
use Rattle.sd_product.specs.Inductive.{proved_of}
use Rattle.sd_product.specs.Work.{pairs_in}
use Rattle.sd_cert.specs.Accepts.{proofs_from}
use Rattle.sd_cert.specs.Headers.{headers_of}
use Rattle.sd_cert.specs.Tables.{IsDecided}
use Rattle.sd_cert.proofs.Listing.{claims-count, ascend-own, numbers-step, numbers-all, decide-all}
use Rattle.sd_cert.proofs.table.list_live.Goals as goal

pub bounds-claims-pair : goal.bounds-claims-pair
bounds-claims-pair c =
    omega (arith, claims-count c.args.work.now c.args.claims.now c.requires, c.pairs-test.true, c.len-pair-end.ensures, ap length c.pairs-2.ensures)

pub list_entries-frontier-requires-clause-ascend : goal.list_entries-frontier-requires-clause-ascend
list_entries-frontier-requires-clause-ascend c =
    let within : c.pairs.pair < length (pairs_in c.args.work.now) = omega (arith, c.pairs-test.true, c.len-pair-end.ensures, ap length c.pairs-2.ensures) in
    let numbers = c.numbers_of-first.ensures in
    rw (c.as_slice.ensures, numbers.first, numbers.end) (ascend-own c.args.work.now c.args.claims.now c.requires c.pairs.pair c.index-claims-pair.result within c.index-claims-pair.is)

pub pairs-preserved : goal.pairs-preserved
pairs-preserved c =
    let h = c.args.work.now in
    let claims = c.args.claims.now in
    let p = c.index-claims-pair.result in
    let within : c.pairs.pair < length (pairs_in h) = omega (arith, c.pairs-test.true, c.len-pair-end.ensures, ap length c.pairs-2.ensures) in
    let first = c.numbers_of-first.result.0 in
    let listed = c.pairs.invariant.entries in
    let entries = c.list_entries-frontier.ensures in
    record {
      size = entries.size ∙ c.pairs.invariant.size;
      below = omega (arith, entries.order, c.numbers_of-first.ensures.first, c.numbers_of-first.ensures.end, c.numbers_of-first.ensures.ordered);
      entries = (
        listed.0 ++ map (λ k. first + k) (proved_of p.proved),
        subst (λ (ps : List Proved). IsDecided c.list_entries-frontier.new.table c.list_entries-frontier.result (listed.0 ++ map (λ k. first + k) (proved_of ps))) c.as_slice.ensures (entries.decided listed.0 listed.1),
        numbers-step h claims c.requires c.pairs.pair p within c.index-claims-pair.is listed.0 (proved_of (proofs_from 0 (headers_of h) claims)) first c.numbers_of-first.ensures.first listed.2,
      );
    }

pub returns-clause-live : goal.returns-clause-live
returns-clause-live c =
    let h = c.args.work.now in
    let listed = c.pairs.invariant.entries in
    let size : length c.clear_until.new.table ≡ c.count-total.result = c.clear_until.ensures.size ∙ c.pairs.invariant.size in
    numbers-all h c.args.claims.now c.requires c.pairs.pair _ listed.0 (proved_of (proofs_from 0 (headers_of h) c.args.claims.now)) (omega (arith, c.pairs-test.false, c.len-pair-end.ensures, ap length c.pairs-2.ensures)) listed.2
    ∙ sym (decide-all c.clear_until.new.table c.count-total.result listed.0 size (c.clear_until.ensures.decided listed.0 listed.1))
