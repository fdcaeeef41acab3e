use Rattle.std.proofs.Common.{◌≡◌, ◌∙◌, rules, Some, subst, sym}
use Rattle.std.specs.Str.Parse.{ParsesUnsigned}
use Rattle.sd_words.specs.Numbers.{number_to}
use Rattle.sd_words.proofs.NumberLemmas.{number-range, number-unread}
use Rattle.sd_words.proofs.number.number_to.Goals as goal

pub returns-in_default-clause-number : goal.returns-in_default-clause-number
returns-in_default-clause-number c = number-unread c.args.most c.args.word.now (sym c.is_numeral.ensures ∙ c.if-not-is_numeral.false) c.in_default.field-0
    (subst (λ r. ParsesUnsigned 32 10 c.args.word.now r) c.in_default.is c.parse.ensures.value.0) c.ranges.most.fits

pub returns-clause-range : goal.returns-clause-range
returns-clause-range c =
    let spelled : Some c.in-Ok.number ≡ number_to c.args.most c.args.word.now = search rules in
    let range = number-range c.args.most c.in-Ok.number c.args.word.now (sym spelled) in
    (range.0, range.1)
