use Rattle.std.proofs.Common.{◌≡◌, map, take}
use Rattle.sd_forms.specs.LinearForms.{form_of}
use Rattle.sd_forms.proofs.forms.forms_of.Given as goal

abbrev pub invariant-loop-number : goal.invariant-loop-number
invariant-loop-number l = l.forms ≡ map (form_of l.terms) (take l.number l.terms)
