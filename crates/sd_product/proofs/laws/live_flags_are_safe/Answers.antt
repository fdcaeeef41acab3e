use Rattle.sd_product.proofs.JudgedLemmas.{live-flags-safe}
use Rattle.sd_product.proofs.laws.live_flags_are_safe.Goals as goal

pub returns : goal.returns
returns c = live-flags-safe c.no_new_failure.ensures
