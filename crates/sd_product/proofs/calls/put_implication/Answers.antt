use Rattle.std.proofs.Common.{◌≡◌, ◌∙◌}
use Rattle.std.specs.Prelude.{map}
use Rattle.sd_term.specs.Bank.{tree_at}
use Rattle.sd_term.specs.Build.{or_of, not_of}
use Rattle.sd_vcgen.specs.Numbers.{site_at}
use Rattle.sd_vcgen.proofs.Numbers.{extends_then}
use Rattle.sd_product.specs.Relations.{term_of, claim_term}
use Rattle.sd_product.specs.Query.{under, site_inputs, site_ends}
use Rattle.sd_product.specs.Numbers.{store_at}
use Rattle.sd_product.proofs.Sites.{site_same, inputs_are, ends_are}
use Rattle.sd_product.proofs.calls.put_implication.Goals as goal

pub returns-clause-term : goal.returns-clause-term
returns-clause-term c =
    let a = c.args.bank.now in
    let b = c.put_claim.new.bank in
    let d = c.put_under.new.bank in
    let e = c.implies.new.self in
    let pair = c.args.pair.now in
    let x = c.args.candidate.now in
    let m = c.args.old.now in
    let n = c.args.new.now in
    let old = site_at a m in
    let new = site_at a n in
    let claim = c.in_ok-claim.ensures in
    let claimed = c.in_ok-claimed.ensures in
    let where_new = c.in_ok-where_new.ensures in
    let first = c.call_ends.ensures in
    let second = c.call_ends-2.ensures in
    let third = c.call_inputs.ensures in
    let fourth = c.call_inputs-2.ensures in
    let old_ends = ends_are a c.call_ends.result.state m first.ins first.outs first.globals in
    let new_ends = ends_are a c.call_ends-2.result.state n second.ins second.outs second.globals in
    let old_inputs : store_at b c.call_inputs.result ≡ site_inputs old = inputs_are b c.call_inputs.result m third.ins third.outs third.globals ∙ (λ i. site_inputs (site_same a b m claim.kept c.requires.old i)) in
    let new_inputs : store_at b c.call_inputs-2.result ≡ site_inputs new = inputs_are b c.call_inputs-2.result n fourth.ins fourth.outs fourth.globals ∙ (λ i. site_inputs (site_same a b n claim.kept c.requires.new i)) in
    let claim_is : tree_at b c.in_ok-claim.claim ≡ claim_term pair.outputs x.claim (site_ends old) old.flag (site_ends new) new.flag =
    claim.term.tree ∙ (λ i. claim_term (c.as_slice.ensures i) x.claim (old_ends i) (tree_at a (first.flag i)) (new_ends i) (tree_at a (second.flag i))) in
    let under_is : tree_at d c.in_ok-claimed.claimed ≡ under (map (term_of pair.inputs (site_inputs old) (site_inputs new)) x.when) (claim_term pair.outputs x.claim (site_ends old) old.flag (site_ends new) new.flag) =
    claimed.term.tree ∙ (λ i. under (map (term_of (c.as_slice-2.ensures i) (old_inputs i) (new_inputs i)) (c.as_slice-3.ensures i)) (claim_is i)) in
    let ad = extends_then a b d claim.kept claimed.kept in
    let ae = extends_then a d e ad where_new.kept in
    let new_guard : tree_at d n.guard ≡ new.guard = ad.kept n.guard c.requires.new.guard.within in
    let old_guard : tree_at e m.guard ≡ old.guard = ae.kept m.guard c.requires.old.guard.within in
    record {
      within = c.in_ok-id.ensures.number;
      tree = c.in_ok-id.ensures.tree ∙ (λ i. or_of (not_of (old_guard i)) ((where_new.tree ∙ (λ j. or_of (not_of (new_guard j)) (under_is j))) i));
    }
