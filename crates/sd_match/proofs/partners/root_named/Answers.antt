use Rattle.std.proofs.Common.{sym, ◌∙◌, ◌<◌, length, rules}
use Rattle.sd_match.proofs.KeptLemmas.{root_kept, kept_within, is_root, proc_name}
use Rattle.sd_match.proofs.partners.root_named.Goals as goal

pub overflow_cast-result : goal.overflow_cast-result
overflow_cast-result c =
    let at = sym (root_kept 0 c.args.procs.now c.args.name.now) ∙ (sym (c.requires.roots c.args.name.now) ∙ (sym c.find.ensures ∙ c.in-Some.is)) in
    let within : c.in-Some.place < length c.args.procs.now = kept_within is_root proc_name c.args.procs.now c.args.name.now c.in-Some.place at in
    search rules
