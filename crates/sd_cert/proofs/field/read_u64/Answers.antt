use Rattle.std.proofs.Common.{List, ℕ, ◌<◌, ◌^◌, sym, ◌∙◌, subst}
use Rattle.std.specs.Prelude.{Option}
use Rattle.std.specs.Fmt.{decimal}
use Rattle.std.specs.Str.Parse.{ParsesUnsigned}
use Rattle.sd_cert.specs.Fields.{IsReadAs}
use Rattle.sd_cert.proofs.FieldLemmas.{leading_zero, not_digits, number_is, digits-utf8}
use Rattle.sd_cert.proofs.field.read_u64.Goals as goal

pub returns-then-has_leading_zero : goal.returns-then-has_leading_zero
returns-then-has_leading_zero c =
    (tt, λ n h e. absurd (leading_zero c.args.text.now (sym c.has_leading_zero.ensures ∙ c.if-has_leading_zero.true) n h e))

pub returns-then-not-are_digits : goal.returns-then-not-are_digits
returns-then-not-are_digits c =
    (tt, λ n h e. absurd (not_digits c.args.text.now (sym c.are_digits.ensures ∙ c.if-not-are_digits.true) n h e))

pub returns-in-Ok : goal.returns-in-Ok
returns-in-Ok c =
    subst (λ (o : Option ℕ). IsReadAs decimal (λ n. n < 2 ^ 64) c.args.text.now o) (sym c.ok.ensures.value)
    (number_is c.args.text.now (sym c.are_digits.ensures ∙ c.if-not-are_digits.false) (sym c.has_leading_zero.ensures ∙ c.if-has_leading_zero.false) c.parse.result
    (subst (λ (t : List ℕ). ParsesUnsigned 64 10 t c.parse.result) c.in-Ok.ensures.cases.0 c.parse.ensures.value.0))

pub returns-in-Err : goal.returns-in-Err
returns-in-Err c =
    (tt, λ n h e. absurd (c.in-Err.ensures.cases.0 (digits-utf8 c.args.text.now (sym c.are_digits.ensures ∙ c.if-not-are_digits.false))))
