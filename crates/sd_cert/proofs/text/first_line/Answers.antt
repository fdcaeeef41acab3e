use Rattle.std.proofs.Common.{◌+◌, take, drop, sym, ◌∙◌}
use Rattle.std.proofs.lemmas.Option.{none-some}
use Rattle.sd_cert.proofs.TextLemmas.{without_form}
use Rattle.sd_cert.proofs.text.first_line.Goals as goal

pub returns-in-None : goal.returns-in-None
returns-in-None c =
    without_form c.args.text.now (take c.in-Some.end c.args.text.now) (drop (c.in-Some.end + 1) c.args.text.now) c.in-Some.ensures.1 c.in-Some.ensures.2
    (λ l f e. none-some l (sym c.in-None.is ∙ c.in_ok-line.ensures.1 l f e))
