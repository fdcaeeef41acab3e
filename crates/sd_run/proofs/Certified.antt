-- The certificate of a comparison shows its table.
use Rattle.std.proofs.Common.{◌≡◌, ◌≢◌, sym, subst, ℕ, Bool, List, [], length}
use Rattle.std.specs.Prelude.{Option, None, Some, Result, Ok, Err, IfOk}
use Rattle.sd_kernel.specs.declared.proved.Proved.{Proved}
use Rattle.sd_product.specs.Work.{PairedPrograms, claims_in, queries_of}
use Rattle.sd_product.specs.Inductive.{proved_of, IsInductive}
use Rattle.sd_rounds.specs.declared.settle.Death.{Death}
use Rattle.sd_rounds.specs.Settled.{IsSettled}
use Rattle.sd_cert.proofs.WrittenLemmas.{written-accepted, inductive-ascends}
use Rattle.sd_cert.specs.declared.digest.Digests.{Digests}
use Rattle.sd_cert.specs.declared.fault.CertError.{CertError}
use Rattle.sd_cert.specs.declared.fault.CertError.TheVariants.{NoMemory}
use Rattle.sd_cert.specs.Accepts.{Ascend, Accepts}
use Rattle.sd_cert.specs.ReplayFaults.{IsReplayFault}
use Rattle.sd_run.specs.declared.verdict.Otherwise.TheVariants.{Unknown, Unproved}
use Rattle.sd_run.specs.Texts.{Texts, programs_of, digests_of}
use Rattle.sd_run.specs.Outcome.{Outcome, IsReport, IsCertified, IsComparison, IsReplay, IsRefused}
use Rattle.sd_run.specs.Replies.{IsMade}

-- ---- what is made shows the table

pub made-certified : (t : Texts) (proofs : List Proved) (live : List Bool) (name : Option (List ℕ)) (made : Option (List ℕ × List ℕ))
    → length live ≡ length (claims_in (programs_of t)) → IsInductive (programs_of t) live proofs → IsMade t (programs_of t) proofs name made → IsCertified t live name made
made-certified t proofs live None None size inductive m = tt
made-certified t proofs live (Some name) (Some file) size inductive m = (m.0, written-accepted (programs_of t) (digests_of t) proofs file.1 live m.1 size inductive, m.2)
made-certified t proofs live None (Some file) size inductive m = absurd m
made-certified t proofs live (Some name) None size inductive m = absurd m

-- ---- comparisons

-- the proofs of a settled table ascend
pub settled-ascends : (leaves : ℕ) (work : PairedPrograms) (live : List Bool) (deaths : List Death) (proofs slice : List Proved) → IsSettled leaves work live deaths proofs → slice ≡ proofs → Ascend 0 (length (claims_in work)) (proved_of slice)
settled-ascends leaves work live deaths proofs slice s is =
    subst (λ (ps : List Proved). Ascend 0 (length (claims_in work)) (proved_of ps)) (sym is)
    (inductive-ascends (queries_of work live) (length (claims_in work)) live proofs s.size s.inductive)

pub comparison-of : (leaves : ℕ) (t : Texts) (work : PairedPrograms) (name : Option (List ℕ)) (o : Outcome) (live : List Bool) (proofs slice : List Proved) → work ≡ programs_of t → IsSettled leaves work live o.deaths proofs → slice ≡ proofs
    → IsMade t work slice name o.certificate → IsReport Unknown t live o → IsComparison leaves name t o
comparison-of leaves t work name o live proofs slice is settled same made is_report =
    let s = subst (λ (w : PairedPrograms). IsSettled leaves w live o.deaths proofs) is settled in
    record {
      live = live;
      proofs = proofs;
      settled = s;
      is_report = is_report;
      certified = made-certified t proofs live name o.certificate s.size s.inductive (subst (λ (w : PairedPrograms). IsMade t w proofs name o.certificate) is (subst (λ (ps : List Proved). IsMade t work ps name o.certificate) same made));
    }

-- ---- replays

pub replay-of : (t : Texts) (work : PairedPrograms) (bytes : List ℕ) (o : Outcome) (d : Digests) (live : List Bool) → work ≡ programs_of t → d ≡ digests_of t → Accepts work d bytes live → IsReport Unproved t live o → o.deaths ≡ [] → o.certificate ≡ None → IsReplay bytes t o
replay-of t work bytes o d live is same a is_report no_death no_certificate = record {
  live = live;
  accepted = subst (λ (w : PairedPrograms). Accepts w (digests_of t) bytes live) is (subst (λ (e : Digests). Accepts work e bytes live) same a);
  is_report = is_report;
  no_death = no_death;
  no_certificate = no_certificate;
}

pub refused-of : (t : Texts) (work : PairedPrograms) (bytes : List ℕ) (e : CertError) (d : Digests) → work ≡ programs_of t → d ≡ digests_of t → IsReplayFault work d bytes e → (e ≢ NoMemory → (live : List Bool) → Accepts work d bytes live → ⊥) → e ≢ NoMemory → IsRefused bytes t e
refused-of t work bytes e d is same fault none named = record {
  fault = subst (λ (w : PairedPrograms). IsReplayFault w (digests_of t) bytes e) is (subst (λ (x : Digests). IsReplayFault work x bytes e) same fault);
  named = named;
  none = λ live a. none named live (subst (λ (x : Digests). Accepts work x bytes live) (sym same) (subst (λ (w : PairedPrograms). Accepts w (digests_of t) bytes live) (sym is) a));
}

-- what follows from what is said of the value in an `Ok`
pub ok-map : {T E : Type 0} (r : Result T E) {P Q : T → Type 0} → IfOk r P → ((x : T) → P x → Q x) → IfOk r Q
ok-map (Ok x) h f = f x h
ok-map (Err e) h f = tt
