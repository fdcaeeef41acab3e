use Rattle.std.proofs.Common.{List, ℕ, sym, subst, inr, arith, length, ◌≤◌}
use Rattle.sd_run.specs.Replies.{texts_of, outcome_of, IsJudged}
use Rattle.sd_run.proofs.Texts.{front_is}
use Rattle.sd_run.proofs.replaying.replay_file.Goals as goal

pub returns-clause-reply : goal.returns-clause-reply
returns-clause-reply g c =
    let short : length c.in-Ok.bytes.items ≤ 9223372036854775807 = omega arith in
    inr (
      c.in-Ok.bytes.items,
      λ bytes known. sym (front_is 9223372036854775807 bytes c.in-Ok.bytes.items (c.in-Ok.ensures.front bytes known) short),
      short,
      subst (λ (b : List ℕ). IsJudged b (texts_of c.args.matched.now.old c.args.matched.now.new) (outcome_of c.in_ok-judge.field-0)) c.as_slice.ensures.value c.in_ok-judge.ensures,
    )
