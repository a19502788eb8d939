-- What the least number of the members says of how a frame starts.
use Rattle.std.proofs.Common.{ℕ, ◌≡◌, ◌≢◌, ◌≤◌, ◌<◌, ◌^◌, ◌==◌, Bool, true, false, ◌&&◌, not, subst}
use Rattle.std.proofs.Common.{List, length, Option, Some, None, refl, sym, ap, ◌∙◌, inl, inr, arith}
use Rattle.std.specs.Prelude.{nat_lt}
use Rattle.std.proofs.lemmas.Bool.Decides.{nat_tests}
use Rattle.ccan_accept.specs.declared.frame.Frame.{Frame}
use Rattle.ccan_wire.specs.declared.member.Member.{Member}
use Rattle.ccan_wire.specs.Arbitration.{arbitration_bits, beats, rest_of}
use Rattle.ccan_wire.specs.Member.{member_at, sent_by}
use Rattle.ccan_wire.specs.Packed.{Agrees, Dissents, IsLeast, IsLeastAmong, key_of, number_of, packed, rest_by}
use Rattle.ccan_wire.specs.Packed.{rest_of_some}
use Rattle.ccan_wire.specs.Role.{hears}
use Rattle.ccan_wire.specs.Start.{Collides, ComesLater, DropsOut, Loses, SendsLeast, Wins}
use Rattle.ccan_wire.specs.Winner.{is_among}
use Rattle.ccan_wire.proofs.Frames.{same_frame}
use Rattle.ccan_wire.proofs.Members.{by_among, by_place, nobody_past}
use Rattle.ccan_wire.proofs.Order.{packed-order, value_of-below}
use Rattle.ccan_wire.proofs.Parts.{dropped-part, listener-part, part-sender, sender-part}

-- ---- numbers and frames

packed-below : (f : Frame) → packed f < 2 ^ 32
unfolding packed
packed-below f = value_of-below 32 (arbitration_bits f)

no_frame : (o : Option Frame) → 2 ^ 32 ≤ number_of o → o ≡ None
no_frame None h = refl
no_frame (Some f) h = let low = packed-below f in absurd (omega arith)

some_frame : (o : Option Frame) → number_of o < 2 ^ 32 → (f : Frame) × (o ≡ Some f)
some_frame None h = absurd (omega arith)
some_frame (Some f) h = (f, refl)

some_sent : (o : Option Frame) → o ≢ None → (f : Frame) × (o ≡ Some f)
some_sent None h = absurd (h refl)
some_sent (Some f) h = (f, refl)

beats_less : (f g : Frame) → packed f < packed g → beats f g ≡ true
beats_less f g h = let less : nat_lt (packed f) (packed g) ≡ true = grind (arith, nat_tests) in packed-order f g ∙ less

beats_not : (f g : Frame) → packed g ≤ packed f → beats f g ≡ false
beats_not f g h = let less : nat_lt (packed f) (packed g) ≡ false = grind (arith, nat_tests) in packed-order f g ∙ less

not_beats : (f g : Frame) → beats f g ≡ false → packed g ≤ packed f
not_beats f g h =
    let less : nat_lt (packed f) (packed g) ≡ false = sym (packed-order f g) ∙ h in grind (arith, nat_tests)

both : (a b : Bool) → (a && b) ≡ true → (a ≡ true) × (b ≡ true)
both true true h = (refl, refl)
both true false h = absurd cc
both false b h = absurd cc

-- ---- the least member

module _ (members : List Member) (least : ℕ) (L : IsLeast (λ k. key_of (member_at members k)) (length members) least) where
  within : (k : ℕ) (f : Frame) → sent_by (member_at members k) ≡ Some f → k < length members
  within k f sends =
      by_place members k (length members) (k < length members) (omega arith) (λ h. h)
      (λ out. let none : sent_by (member_at members k) ≡ None = ap sent_by (nobody_past members k out) in absurd cc)

  key_is : (k : ℕ) (f : Frame) → sent_by (member_at members k) ≡ Some f → key_of (member_at members k) ≡ packed f
  key_is k f sends = ap number_of sends

  rest_is : (k : ℕ) (f : Frame) → sent_by (member_at members k) ≡ Some f → rest_by (member_at members k) ≡ rest_of f
  rest_is k f sends = ap rest_of_some sends

  -- the least number is of no frame
  pub nothing : sent_by (member_at members least) ≡ None → (k : ℕ) → sent_by (member_at members k) ≡ None
  nothing none k =
      by_place members k (length members) (sent_by (member_at members k) ≡ None) (omega arith)
      (λ h.
      let top : key_of (member_at members least) ≡ 2 ^ 32 = ap number_of none in
      let low = L.floor k h in
      let high : 2 ^ 32 ≤ key_of (member_at members k) = omega arith in
      no_frame (sent_by (member_at members k)) high)
      (λ out. ap sent_by (nobody_past members k out))

  -- it is of this frame, and these are all who contend by it
  module _ (g : Frame) (its : sent_by (member_at members least) ≡ Some g) (who : List Bool)
      (each : (k : ℕ) → is_among who k
      ≡ (nat_lt k (length members) && key_of (member_at members k) == key_of (member_at members least))) where
    among_of : (k : ℕ) → k < length members → key_of (member_at members k) ≡ key_of (member_at members least)
        → is_among who k ≡ true
    among_of k lt same =
        let one : nat_lt k (length members) ≡ true = grind (arith, nat_tests) in
        let two : (key_of (member_at members k) == key_of (member_at members least)) ≡ true = grind (arith, nat_tests) in
        each k ∙ (rw (one, two) refl)

    of_among : (k : ℕ) → is_among who k ≡ true
        → (k < length members) × (key_of (member_at members k) ≡ key_of (member_at members least))
    of_among k among =
        let b = both (nat_lt k (length members)) (key_of (member_at members k) == key_of (member_at members least))
        (sym (each k) ∙ among) in
        let p = b.0 in
        let q = b.1 in
        (grind (arith, nat_tests), grind (arith, nat_tests))

    pub sends_least : (k : ℕ) → is_among who k ≡ true → SendsLeast (member_at members) k
    sends_least k among =
        let same = (of_among k among).1 in
        let here = key_is least g its in
        let low = packed-below g in
        let found = some_frame (sent_by (member_at members k)) (omega arith) in
        let mine = key_is k found.0 found.1 in
        record {
          frame = found.0;
          sends = found.1;
          least = λ j other theirs.
              let floor = L.floor j (within j other theirs) in
              let there = key_is j other theirs in
              beats_not other found.0 (omega arith);
        }

    -- the frame of one of them whose rest is the least
    module _ (first : ℕ) (F : IsLeastAmong (λ k. rest_by (member_at members k)) who (length members) first) (f : Frame)
        (sends : sent_by (member_at members first) ≡ Some f) where
      rest_first : rest_by (member_at members first) ≡ rest_of f
      rest_first = rest_is first f sends

      key_first : packed f ≡ key_of (member_at members least)
      key_first = sym (key_is first f sends) ∙ (of_among first F.within).1

      later : (k : ℕ) (other : Frame) → is_among who k ≡ true → sent_by (member_at members k) ≡ Some other
          → rest_of f < rest_by (member_at members k)
          → ComesLater f other
      later k other among theirs less =
          let here = key_first in
          let there = key_is k other theirs in
          let same = (of_among k among).1 in
          let rest = rest_is k other theirs in
          record {
            not_before = beats_not other f (omega arith);
            not_after = beats_not f other (omega arith);
            recessive = omega arith;
          }

      -- some member does not let it go on
      collides_by : (k : ℕ) (over : Frame) → sent_by (member_at members k) ≡ Some over → over ≢ f
          → (Loses (member_at members k) f → ⊥)
          → (DropsOut (member_at members k) f → ⊥)
          → Collides (member_at members) who
      collides_by k over sent different drives_on stays =
          record {
            only = sends_least;
            all = λ j s.
                let lt = within j s.frame s.sends in
                let here = key_is least g its in
                let there = key_is j s.frame s.sends in
                let no_less = not_beats g s.frame (s.least least g its) in
                let floor = L.floor j lt in
                among_of j lt (omega arith);
            one = first;
            one_is = F.within;
            frame = f;
            sends = sends;
            first = λ j other inside theirs.
                let floor = F.floor j (of_among j inside).0 inside in
                let here = rest_first in
                let there = rest_is j other theirs in
                omega arith;
            another = k;
            its = over;
            its_sends = sent;
            different = different;
            drives_on = drives_on;
            stays = stays;
          }

      -- it is one of these
      collided_among : (k : ℕ) → is_among who k ≡ true → Dissents true (member_at members k) f → Collides (member_at members) who
      collided_among k among d =
          let s = sends_least k among in
          collides_by k s.frame s.sends (λ e. d.0 (s.sends ∙ ap Some e))
          (λ l.
          let is = same_frame (sent_by (member_at members k)) l.other s.frame l.sends s.sends in
          let lost : beats f s.frame ≡ true = subst (λ h. beats f h ≡ true) is l.lost in
          let no = s.least first f sends in
          cc)
          (λ out.
          let there = rest_is k out.other out.sends in
          let more = out.later.recessive in
          d.1 (record { hears = out.hears; passive = out.passive; later = omega arith }))

      -- it is another
      collided_over : (k : ℕ) → is_among who k ≡ false → Dissents false (member_at members k) f → Collides (member_at members) who
      collided_over k outside d =
          let found = some_sent (sent_by (member_at members k)) d.0 in
          let deaf = d.1 in
          collides_by k found.0 found.1
          (λ e.
          let sent : sent_by (member_at members k) ≡ Some f = found.1 ∙ ap Some e in
          let there = key_is k f sent in
          let here = key_first in
          let among = among_of k (within k f sent) (there ∙ here) in
          cc)
          (λ l. let hears = l.hears in cc) (λ out. let hears = out.hears in cc)

      pub collided : (k : ℕ) → Dissents (is_among who k) (member_at members k) f → Collides (member_at members) who
      collided k d =
          by_among who k (Collides (member_at members) who)
          (λ e. collided_among k e (subst (λ b. Dissents b (member_at members k) f) e d))
          (λ e. collided_over k e (subst (λ b. Dissents b (member_at members k) f) e d))

      -- each lets it go on
      module _ (senders dropped : List Bool)
          (of_senders : (k : ℕ) → is_among senders k
          ≡ (nat_lt k (length members)
          && (is_among who k && rest_by (member_at members k) == rest_by (member_at members first))))
          (of_dropped : (k : ℕ) → is_among dropped k ≡ (is_among who k && not (is_among senders k)))
          (agree : (k : ℕ) → k < length members → Agrees (is_among who k) (member_at members k) f) where
        agree_among : (k : ℕ) → is_among who k ≡ true → Agrees true (member_at members k) f
        agree_among k among =
            subst (λ b. Agrees b (member_at members k) f) among (agree k (of_among k among).0)

        stops : (k : ℕ) (other : Frame) → is_among who k ≡ false → sent_by (member_at members k) ≡ Some other
            → hears (member_at members k).role ≡ true
        stops k other outside theirs =
            elim (subst (λ b. Agrees b (member_at members k) f) outside (agree k (within k other theirs))) [
              | inl none ↦ absurd cc
              | inr hears ↦ hears
            ]

        same_rest : (k : ℕ) → is_among senders k ≡ true
            → (is_among who k ≡ true) × (rest_by (member_at members k) ≡ rest_by (member_at members first))
        same_rest k e =
            let b = both (nat_lt k (length members)) _ (sym (of_senders k) ∙ e) in
            let d = both (is_among who k) (rest_by (member_at members k) == rest_by (member_at members first)) b.1 in
            let q = d.1 in
            (d.0, grind (arith, nat_tests))

        is_sender : (k : ℕ) → is_among who k ≡ true → rest_by (member_at members k) ≡ rest_by (member_at members first)
            → is_among senders k ≡ true
        is_sender k among same =
            let lt = (of_among k among).0 in
            let one : nat_lt k (length members) ≡ true = grind (arith, nat_tests) in
            let two : (rest_by (member_at members k) == rest_by (member_at members first)) ≡ true = grind (arith, nat_tests) in
            of_senders k ∙ (rw (one, among, two) refl)

        theirs_is : (k : ℕ) → is_among senders k ≡ true → sent_by (member_at members k) ≡ Some f
        theirs_is k e =
            let there = same_rest k e in
            elim (agree_among k there.0) [
              | inl sent ↦ sent
              | inr out ↦ let less = out.later in let same = there.1 in let here = rest_first in absurd (omega arith)
            ]

        drops_out : (k : ℕ) → is_among senders k ≡ false → is_among who k ≡ true → DropsOut (member_at members k) f
        drops_out k out among = elim (agree_among k among) [
          | inl sent ↦
              let is = is_sender k among (rest_is k f sent ∙ sym rest_first) in absurd cc
          | inr late ↦
              let s = sends_least k among in
              record {
                other = s.frame;
                sends = s.sends;
                later = later k s.frame among s.sends late.later;
                hears = late.hears;
                passive = late.passive;
              }
        ]

        pub won : Wins (member_at members) (record { frame = f; senders = senders; dropped = dropped })
        won =
            record {
              some = (first, part-sender senders dropped first (is_sender first F.within refl));
              theirs = λ k p. theirs_is k (sender-part senders dropped k p);
              drop = λ k p.
                  let d = dropped-part senders dropped k p in
                  drops_out k d.0 (both (is_among who k) (not (is_among senders k)) (sym (of_dropped k) ∙ d.1)).0;
              first = λ k other p theirs.
                  let out = listener-part senders dropped k p in
                  let not_among : is_among who k ≡ false =
                  by_among who k (is_among who k ≡ false)
                  (λ among.
                  let is : is_among dropped k ≡ true = of_dropped k ∙ rw (among, out.0) refl in
                  let no = out.1 in
                  absurd cc)
                  (λ outside. outside) in
                  let lt = within k other theirs in
                  let floor = L.floor k lt in
                  let here = key_first in
                  let there = key_is k other theirs in
                  let differ : key_of (member_at members k) ≢ key_of (member_at members least) =
                  λ e. (let among = among_of k lt e in cc) in
                  record {
                    other = other;
                    sends = theirs;
                    lost = beats_less f other (omega arith);
                    hears = stops k other not_among theirs;
                  };
            }
