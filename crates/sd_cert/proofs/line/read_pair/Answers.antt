use Rattle.std.proofs.Common.{ℕ, sym, subst}
use Rattle.std.specs.Prelude.{Option}
use Rattle.sd_cert.specs.declared.line.CertState.{CertState}
use Rattle.sd_cert.specs.declared.line.CertState.TheVariants.{Open, Refused}
use Rattle.sd_cert.specs.Fields.{IsReadAs}
use Rattle.sd_cert.specs.Lines.{pair_fields, IsPairField}
use Rattle.sd_cert.proofs.LineLemmas.{pair_is}
use Rattle.sd_cert.proofs.line.read_pair.Goals as goal

pub returns-in-Some : goal.returns-in-Some
returns-in-Some c =
    subst (λ (o : Option (ℕ × CertState)). IsReadAs pair_fields IsPairField c.args.fields.now o) (sym c.with_state.ensures)
    (pair_is Open c.args.fields.now c.in-Some.number.now c.read_u32.result c.in-Some.ensures c.read_u32.ensures)

pub returns-in-Some-before : goal.returns-in-Some-before
returns-in-Some-before c =
    subst (λ (o : Option (ℕ × CertState)). IsReadAs pair_fields IsPairField c.args.fields.now o) (sym c.with_state-in-Some-before.ensures)
    (pair_is Refused c.args.fields.now c.in-Some-before.number.now c.read_u32-in-Some-before.result c.in-Some-before.ensures c.read_u32-in-Some-before.ensures)
