use Rattle.std.proofs.Common.{[], ◌∷◌, ◌∙◌, ap, append_assoc, ◌++◌}
use Rattle.sd_cert.specs.Lines.{line_text}
use Rattle.sd_cert.proofs.spelling.push_line.Goals as goal

pub returns : goal.returns
returns c = record {
  fit = (c.in_ok-push_fields.ensures.fit, tt);
  text = c.in_ok-push.ensures.items ∙ ap (λ t. t ++ 10 ∷ []) c.in_ok-push_fields.ensures.text ∙ append_assoc c.args.text.now.items (line_text c.args.line) (10 ∷ []);
}
