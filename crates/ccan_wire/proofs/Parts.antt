-- What a member is to the frame that won the bus, by its place.
use Rattle.std.proofs.Common.{ℕ, ◌≡◌, Bool, true, false, List, refl, ap, ◌∙◌}
use Rattle.std.specs.Prelude.{if◌then◌else◌}
use Rattle.ccan_wire.specs.declared.winner.Part.{Part}
use Rattle.ccan_wire.specs.declared.winner.Part.TheVariants.{Sender, Dropped, Listener}
use Rattle.ccan_wire.specs.Winner.{is_among, part_in}
use Rattle.ccan_wire.proofs.Members.{by_among}

-- a part is one of three
pub by_part : (p : Part) (P : Type 0) → (p ≡ Sender → P) → (p ≡ Dropped → P) → (p ≡ Listener → P) → P
by_part Sender P sends drops listens = sends refl
by_part Dropped P sends drops listens = drops refl
by_part Listener P sends drops listens = listens refl

module _ (senders dropped : List Bool) (k : ℕ) where
  pub part-sender : is_among senders k ≡ true → part_in senders dropped k ≡ Sender
  part-sender e = ap (λ b. if b then Sender else (if is_among dropped k then Dropped else Listener)) e

  other_case : is_among senders k ≡ false → part_in senders dropped k ≡ (if is_among dropped k then Dropped else Listener)
  other_case e = ap (λ b. if b then Sender else (if is_among dropped k then Dropped else Listener)) e

  last_case : is_among senders k ≡ false → is_among dropped k ≡ false → part_in senders dropped k ≡ Listener
  last_case e d = other_case e ∙ ap (λ b. if b then Dropped else Listener) d

  middle_case : is_among senders k ≡ false → is_among dropped k ≡ true → part_in senders dropped k ≡ Dropped
  middle_case e d = other_case e ∙ ap (λ b. if b then Dropped else Listener) d

  pub sender-part : part_in senders dropped k ≡ Sender → is_among senders k ≡ true
  sender-part p =
      by_among senders k (is_among senders k ≡ true) (λ e. e)
      (λ e. by_among dropped k (is_among senders k ≡ true) (λ d. let is = middle_case e d in absurd cc)
      (λ d. let is = last_case e d in absurd cc))

  pub dropped-part : part_in senders dropped k ≡ Dropped → (is_among senders k ≡ false) × (is_among dropped k ≡ true)
  dropped-part p =
      by_among senders k ((is_among senders k ≡ false) × (is_among dropped k ≡ true))
      (λ e. let is = part-sender e in absurd cc)
      (λ e. by_among dropped k ((is_among senders k ≡ false) × (is_among dropped k ≡ true)) (λ d. (e, d))
      (λ d. let is = last_case e d in absurd cc))

  pub listener-part : part_in senders dropped k ≡ Listener → (is_among senders k ≡ false) × (is_among dropped k ≡ false)
  listener-part p =
      by_among senders k ((is_among senders k ≡ false) × (is_among dropped k ≡ false))
      (λ e. let is = part-sender e in absurd cc)
      (λ e. by_among dropped k ((is_among senders k ≡ false) × (is_among dropped k ≡ false))
      (λ d. let is = middle_case e d in absurd cc) (λ d. (e, d)))
