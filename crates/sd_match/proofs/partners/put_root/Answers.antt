use Rattle.std.proofs.Common.{sym, ◌∙◌, ap}
use Rattle.std.specs.Prelude.{is_none, not}
use Rattle.sd_base.specs.FirstPlaces.{place_of}
use Rattle.sd_match.proofs.KeptLemmas.{put_kept}
use Rattle.sd_match.proofs.partners.put_root.Goals as goal

pub returns : goal.returns
returns c = λ f. put_kept (is_none c.args.proc.now.parent) c.args.proc.now.name f c.args.place (place_of c.args.places.now f) (place_of c.enter.new.self f)
    (sym (ap not c.is_some.ensures) ∙ ap not c.if-is_some.false) (c.in_ok-enter.ensures f)
