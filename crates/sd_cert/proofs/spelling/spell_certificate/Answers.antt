use Rattle.sd_cert.proofs.SpellLemmas.{spelled}
use Rattle.sd_cert.proofs.spelling.spell_certificate.Goals as goal

pub returns-clause-form : goal.returns-clause-form
returns-clause-form c =
    (spelled c.args.certificate.now c.as_slice-pairs.result.now c.as_slice-pairs.ensures c.new-text.result.items c.push_line.new.text.items c.push_line-2.new.text.items c.push_line-3.new.text.items c.push_line-4.new.text.items c.push_line-5.new.text.items c.push_pairs.new.text.items c.push_line-6.new.text.items
    c.new-text.ensures.items c.in_ok-push_line.ensures c.in_ok-push_line-2.ensures c.in_ok-push_line-3.ensures c.in_ok-push_line-4.ensures c.in_ok-push_line-5.ensures c.in_ok-push_pairs.ensures c.in_ok-push_line-6.ensures).fit

pub returns-clause-text : goal.returns-clause-text
returns-clause-text c =
    (spelled c.args.certificate.now c.as_slice-pairs.result.now c.as_slice-pairs.ensures c.new-text.result.items c.push_line.new.text.items c.push_line-2.new.text.items c.push_line-3.new.text.items c.push_line-4.new.text.items c.push_line-5.new.text.items c.push_pairs.new.text.items c.push_line-6.new.text.items
    c.new-text.ensures.items c.in_ok-push_line.ensures c.in_ok-push_line-2.ensures c.in_ok-push_line-3.ensures c.in_ok-push_line-4.ensures c.in_ok-push_line-5.ensures c.in_ok-push_pairs.ensures c.in_ok-push_line-6.ensures).text
