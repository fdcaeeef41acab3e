use Rattle.std.proofs.Common.{ℕ, List, ◌++◌, sym, subst, ap, ◌∙◌}
use Rattle.std.specs.Prelude.{Option, Some}
use Rattle.std.specs.Option.{option_map}
use Rattle.sd_cert.specs.declared.keyword.Keyword.{Keyword}
use Rattle.sd_cert.specs.declared.line.Line.{Line}
use Rattle.sd_cert.specs.declared.line.Line.TheVariants.{Pair}
use Rattle.sd_cert.specs.Fields.{IsReadAs}
use Rattle.sd_cert.specs.Keywords.{front_of}
use Rattle.sd_cert.specs.Lines.{line_text, IsLine}
use Rattle.sd_cert.specs.NumberLines.{word_and_numbers}
use Rattle.std.proofs.lemmas.Result.{IfOk-weaker}
use Rattle.sd_cert.proofs.LineLemmas.{pair_line_is, no_numbers, numbers_are}
use Rattle.sd_cert.proofs.line.read_fields.Goals as goal

pub returns-in-Pair : goal.returns-in-Pair
returns-in-Pair c =
    subst (λ (o : Option Line). IsReadAs line_text IsLine (front_of c.args.keyword ++ c.args.fields.now) o) (sym c.pair_line.ensures)
    (subst (λ (k : Keyword). IsReadAs line_text IsLine (front_of k ++ c.args.fields.now) (option_map (λ p. Pair p.0 p.1) c.read_pair.result)) (sym c.in-Pair.is)
    (pair_line_is c.args.fields.now c.read_pair.result c.read_pair.ensures))

pub returns-in-None : goal.returns-in-None
returns-in-None c =
    no_numbers c.args.keyword c.in_default.not-Old c.in_default.not-New c.in_default.not-Settings c.in_default.not-Pair c.args.fields.now c.in_ok-numbers-in_default.field-0 c.in_ok-numbers-in_default.ensures c.in-None.is

pub returns-in-Some : goal.returns-in-Some
returns-in-Some c =
    IfOk-weaker c.number_line.result (IsReadAs word_and_numbers IsLine (Some (c.args.keyword, c.as_slice.result.now))) (IsReadAs line_text IsLine (front_of c.args.keyword ++ c.args.fields.now))
    (λ o h. numbers_are c.args.keyword c.in_default.not-Old c.in_default.not-New c.in_default.not-Settings c.in_default.not-Pair c.args.fields.now c.in_ok-numbers-in_default.field-0 c.in_ok-numbers-in_default.ensures c.as_slice.result.now o (c.in-Some.is ∙ ap (λ (ns : List ℕ). Some ns) (sym c.as_slice.ensures)) h)
    c.number_line.ensures
