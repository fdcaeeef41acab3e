use Rattle.std.proofs.Common.{◌≡◌, drop, length}
use Rattle.sd_core.specs.Store.{set_all}
use Rattle.sd_vcgen.proofs.call.changed_globals.Given as goal

abbrev pub invariant-loop-place : goal.invariant-loop-place
invariant-loop-place l = set_all l.after (drop (length l.yielded) l.places) (drop (length l.yielded) l.news) ≡ set_all l.globals l.places l.news
