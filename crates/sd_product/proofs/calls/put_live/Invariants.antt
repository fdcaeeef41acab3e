use Rattle.std.proofs.Common.{◌≡◌, ◌+◌, drop}
use Rattle.sd_vcgen.specs.Numbers.{site_at}
use Rattle.sd_product.specs.Query.{calls_related}
use Rattle.sd_product.specs.Claims.{claimed}
use Rattle.sd_product.proofs.Numbers.{Adding}
use Rattle.sd_product.proofs.calls.put_live.Given as goal

abbrev pub invariant-loop-candidate : goal.invariant-loop-candidate
invariant-loop-candidate l = record {
  number : l.number ≡ l.first + l.candidate-index;
  so_far : Adding l.initial.bank l.initial.facts l.bank l.facts (calls_related l.table l.number (claimed l.calls.pair.now (drop l.candidate-index l.candidates)) (site_at l.initial.bank l.calls.old.now) (site_at l.initial.bank l.calls.new.now)) (calls_related l.table l.first (claimed l.calls.pair.now l.candidates) (site_at l.initial.bank l.calls.old.now) (site_at l.initial.bank l.calls.new.now));
}
