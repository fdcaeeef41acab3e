use Rattle.sd_forms.proofs.FormMeaning.{form_of-value}
use Rattle.sd_forms.proofs.laws.forms_keep_values.Goals as goal

pub returns : goal.returns
returns c = form_of-value
