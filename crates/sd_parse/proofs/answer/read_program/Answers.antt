use Rattle.std.proofs.Common.{sym, subst, length}
use Rattle.sd_parse.specs.Answer.{Rising}
use Rattle.sd_parse.proofs.Stars.{all_rise}
use Rattle.sd_parse.proofs.answer.read_program.Goals as goal

pub parsed-requires : goal.parsed-requires
parsed-requires c = subst (λ ts. Rising 0 ts (length c.args.bytes.now)) (sym c.as_slice.ensures.value) (all_rise c.in-Ok.ensures.found)
