-- The laws of the Status register.
use Rattle.std.proofs.Common.{[], ◌∷◌, ◌++◌, inl, inr}
use Rattle.ccan_confine.specs.Status.{Happened, Enabled, WasRead}
use Rattle.ccan_confine.specs.Laws.{ReadsClear, CausesMakePending, PassiveMakesNothingPending}
use Rattle.ccan_confine.proofs.PendingInterrupt.{pending_read, pending_enabled, pending_happened, pending_now, pending_stays}
use Rattle.std.proofs.Common.{refl}

pub read_law : ReadsClear
read_law [] earlier none pending = pending_read earlier pending
read_law (WasRead ∷ later) earlier none pending = pending_read (later ++ WasRead ∷ earlier) pending
read_law (Enabled sie eie ∷ later) earlier none pending =
    read_law later earlier none (pending_enabled sie eie (later ++ WasRead ∷ earlier) pending)
read_law (Happened event levels ∷ later) earlier none pending = cc

pub cause_law : CausesMakePending
cause_law event levels steps = (
  λ pending. elim (pending_happened event levels steps pending) [ inl cause ↦ inr cause | inr before ↦ inl before ],
  λ either. elim either [
    | inl before ↦ pending_stays (Happened event levels) steps refl before
    | inr cause ↦ pending_now event levels steps cause
  ],
)

pub passive_law : PassiveMakesNothingPending
passive_law event levels steps quiet off warning pending =
    elim (pending_happened event levels steps pending) [
      | inl (inl transfer) ↦ absurd (let is = transfer.1 in cc)
      | inl (inr (enabled, inl changed)) ↦ absurd (changed off)
      | inl (inr (enabled, inr changed)) ↦ absurd (changed warning)
      | inr before ↦ before
    ]
