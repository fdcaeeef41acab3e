-- A certificate that is refused has one fault.
use Rattle.std.specs.Prelude.{◌≡◌, ◌≢◌, ℕ, Bool, List}
use Rattle.sd_product.specs.Work.{PairedPrograms}
use Rattle.sd_cert.specs.declared.digest.Digests.{Digests}
use Rattle.sd_cert.specs.declared.fault.CertError.{CertError}
use Rattle.sd_cert.specs.declared.fault.CertError.TheVariants.{NoMemory}
use Rattle.sd_cert.specs.Accepts.{Accepts}
use Rattle.sd_cert.specs.ReplayFaults.{IsReplayFault}

-- the bytes are refused for this fault, which is another one than out of memory
pub record IsRefusedFor (work : PairedPrograms) (digests : Digests) (bytes : List ℕ) (e : CertError) : Type 0 where
  pub fault : IsReplayFault work digests bytes e
  pub named : e ≢ NoMemory

-- Two faults for which bytes are refused are the same, in the line and in the cause.
abbrev pub HasOneFault : Type 0
HasOneFault =
    (work : PairedPrograms) (digests : Digests) (bytes : List ℕ) (e f : CertError) →
    IsRefusedFor work digests bytes e → IsRefusedFor work digests bytes f → e ≡ f

-- No bytes are accepted with a table and refused for a fault.
abbrev pub AcceptedHasNoFault : Type 0
AcceptedHasNoFault =
    (work : PairedPrograms) (digests : Digests) (bytes : List ℕ) (table : List Bool) (e : CertError) →
    Accepts work digests bytes table → IsRefusedFor work digests bytes e → ⊥
