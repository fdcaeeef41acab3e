use Rattle.std.proofs.Common.{◌+◌, List, ℕ, take, drop, sym, subst}
use Rattle.std.specs.Prelude.{Some}
use Rattle.std.proofs.lemmas.Option.{none-some}
use Rattle.sd_cert.specs.Fields.{IsReadAs, AreNumbers, numbers_text}
use Rattle.sd_cert.proofs.NumberLemmas.{none-before_space, none-at_end, read-all, when-none}
use Rattle.sd_cert.proofs.numbers.read_numbers.Goals as goal

pub returns-in_default-read_u64 : goal.returns-in_default-read_u64
returns-in_default-read_u64 c =
    let text = c.args.text.now in
    let rest = c.numbers.rest.now in (
      tt,
      λ ns f e. absurd (none-before_space text rest c.numbers.numbers c.numbers.invariant.less c.numbers.invariant.whole (take c.in-Some.at rest) (drop (c.in-Some.at + 1) rest) c.in-Some.ensures.1 c.in-Some.ensures.2 (λ n h k. c.in_default-read_u64.not-Some n (c.read_u64.ensures.1 n h k)) ns f e),
    )

pub returns-in-None : goal.returns-in-None
returns-in-None c =
    let text = c.args.text.now in
    let rest = c.numbers.rest.now in (
      tt,
      λ ns f e. absurd (none-at_end text rest c.numbers.numbers c.numbers.invariant.less c.numbers.invariant.whole (when-none _ _ c.place_of.result c.place_of.ensures c.in_default.not-Some) (λ n h k. none-some n (c.in-None.ensures.1 n h k)) ns f e),
    )

pub returns-in_ok-push-in-Some-read_u64-2 : goal.returns-in_ok-push-in-Some-read_u64-2
returns-in_ok-push-in-Some-read_u64-2 c =
    let text = c.args.text.now in
    let rest = c.numbers.rest.now in
    subst (λ (ns : List ℕ). IsReadAs numbers_text AreNumbers text (Some ns)) (sym c.in_ok-push-in-Some-read_u64-2.ensures.ok)
    (read-all text rest c.numbers.numbers c.numbers.invariant.less c.numbers.invariant.whole (when-none _ _ c.place_of.result c.place_of.ensures c.in_default.not-Some) c.in-Some-read_u64-2.number c.in-Some-read_u64-2.ensures.0.0 c.in-Some-read_u64-2.ensures.0.1)
