use Rattle.std.proofs.Common.{◌≡◌, ◌∙◌, ap, subst, ℕ, ◌+◌, List, length, get_or, arith}
use Rattle.std.specs.Prelude.{map}
use Rattle.std.proofs.lemmas.List.{length-map}
use Rattle.sd_base.specs.declared.Sort.{Sort, Bool as BoolSort}
use Rattle.sd_base.specs.declared.Var.{Var}
use Rattle.sd_core.specs.Formed.{sorts_of}
use Rattle.sd_vcgen.specs.Body.{modified_sorts, symbols}
use Rattle.sd_vcgen.specs.Numbers.{DenoteAll}
use Rattle.sd_vcgen.proofs.Numbers.{extends_then, denote_all_later}
use Rattle.sd_vcgen.proofs.call.put_results.Goals as goal

pub returns-clause-outs : goal.returns-clause-outs
returns-clause-outs c =
    let b = c.put_symbols.new.bank in
    let d = c.put_symbols-2.new.bank in
    let e = c.put_flag.new.bank in
    let outs = c.in_ok-outs.ensures in
    let same = c.as_slice-5.ensures ∙ c.in_ok-out_sorts.ensures ∙ ap (λ (l : List Var). sorts_of l) c.as_slice.ensures in
    denote_all_later b e c.in_ok-outs.outs _ (extends_then b d e c.in_ok-changed.ensures.kept c.in_ok-flag.ensures.kept)
    (subst (λ (l : List Sort). DenoteAll b c.in_ok-outs.outs (symbols c.args.next.now l)) same outs.terms)

pub returns-clause-changed : goal.returns-clause-changed
returns-clause-changed c =
    let d = c.put_symbols-2.new.bank in
    let e = c.put_flag.new.bank in
    let p = c.args.procedure.now in
    let P = c.args.context.now.program.now in
    let k = c.args.next.now in
    let globals = c.as_slice-3.ensures ∙ c.in_ok-global_sorts.ensures ∙ ap (λ (l : List Var). sorts_of l) c.as_slice-2.ensures in
    let chosen : c.as_slice-6.result.now ≡ modified_sorts P p = c.as_slice-6.ensures ∙ c.in_ok-changed_sorts.ensures ∙ (λ i. map (λ m. get_or (globals i) m BoolSort) (c.as_slice-4.ensures i)) in
    let long = ap (λ (l : List Sort). length l) (c.as_slice-5.ensures ∙ c.in_ok-out_sorts.ensures ∙ ap (λ (l : List Var). sorts_of l) c.as_slice.ensures) ∙ length-map p.outs (λ (x : Var). x.sort) in
    let next : c.put_symbols.new.next ≡ k + length p.outs = c.in_ok-outs.ensures.next ∙ ap (λ (n : ℕ). k + n) long in
    denote_all_later d e c.in_ok-changed.changed _ c.in_ok-flag.ensures.kept (subst (DenoteAll d c.in_ok-changed.changed) (λ i. symbols (next i) (chosen i)) c.in_ok-changed.ensures.terms)
