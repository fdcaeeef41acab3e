use Rattle.std.proofs.Common.{◌∙◌, sym}
use Rattle.sd_core.specs.declared.CoreProc.{CoreProc}
use Rattle.sd_match.proofs.PlaceLemmas.{place_none, place_not_past, found_is}
use Rattle.sd_match.proofs.procedures.Procedures.named.Goals as goal

pub returns-in-None : goal.returns-in-None
returns-in-None c = sym (place_none (λ (p : CoreProc). p.name) 0 c.args.self.now.procs.now c.args.name.now (sym (c.args.self.now.found c.args.name.now) ∙ (sym c.find.ensures ∙ c.in-None.is)))

pub returns-in-None-get : goal.returns-in-None-get
returns-in-None-get c =
    let at = sym (c.args.self.now.found c.args.name.now) ∙ (sym c.find.ensures ∙ c.in-Some.is) in
    absurd (place_not_past (λ (p : CoreProc). p.name) c.args.self.now.procs.now c.args.name.now c.in-Some.place at c.in-None-get.ensures.lookup.0)

pub returns-in-Some-get : goal.returns-in-Some-get
returns-in-Some-get c = found_is (λ (p : CoreProc). p.name) c.args.self.now.procs.now c.args.name.now c.in-Some.place c.in-Some-get.proc.now (sym (c.args.self.now.found c.args.name.now) ∙ (sym c.find.ensures ∙ c.in-Some.is)) c.in-Some-get.ensures.lookup.1
