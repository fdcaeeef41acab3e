use Rattle.std.specs.Option.{option_copied}
use Rattle.sd_run.specs.Replies.{texts_of, named, outcome_with}
use Rattle.sd_run.proofs.Certified.{settled-ascends, comparison-of}
use Rattle.sd_run.proofs.comparing.compare.Goals as goal

pub certify-requires : goal.certify-requires
certify-requires c = record {
  ascend =
      settled-ascends c.args.leaves c.args.matched.now.work c.in_ok-settled.settled.table c.in_ok-settled.settled.deaths.items c.in_ok-settled.settled.proofs.items c.as_slice.result.now c.in_ok-settled.ensures.settled c.as_slice.ensures.value;
}

pub returns : goal.returns
returns c =
    comparison-of c.args.leaves (texts_of c.args.matched.now.old c.args.matched.now.new) c.args.matched.now.work (option_copied c.args.name) (outcome_with c.in_ok-report.report c.in_ok-settled.settled.deaths.items (named c.in_ok-certificate.certificate))
    c.in_ok-settled.settled.table c.in_ok-settled.settled.proofs.items c.as_slice.result.now c.requires.matched.is_work c.in_ok-settled.ensures.settled c.as_slice.ensures.value c.in_ok-certificate.ensures (c.in_ok-report.ensures _ _)
