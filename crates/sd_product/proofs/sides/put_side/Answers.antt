use Rattle.std.proofs.Common.{◌+◌, ap}
use Rattle.sd_vcgen.specs.Numbers.{context_of}
use Rattle.sd_product.proofs.SideLemmas.{side_made}
use Rattle.sd_product.proofs.sides.put_side.Goals as goal

pub returns-clause-side : goal.returns-clause-side
returns-clause-side c =
    side_made c.put_symbols.new.bank c.put_symbols-2.new.bank c.body_of.new.bank (context_of c.args.context.now) c.args.procedure.now c.args.first c.args.calls _ (record { ins = c.in_ok-ins.ins; globals = c.in_ok-globals.globals; body = c.in_ok-body.body }) c.as_slice.result.now c.as_slice-2.result.now c.as_slice-3.result.now c.as_slice-4.result.now
    c.as_slice.ensures c.as_slice-2.ensures (ap (λ n. c.args.first + n) c.len.ensures) c.as_slice-3.ensures c.as_slice-4.ensures c.in_ok-ins.ensures.symbols c.in_ok-globals.ensures.kept c.in_ok-globals.ensures.symbols c.in_ok-body.ensures.kept c.in_ok-body.ensures.terms
