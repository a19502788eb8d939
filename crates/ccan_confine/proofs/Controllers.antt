-- A controller is read back from its word.
use Rattle.std.proofs.Common.{ℕ, ◌≡◌, ◌≤◌, ◌<◌, ◌+◌, ◌^◌, Bool, true, refl, sym, ap, ◌∙◌, arith, min}
use Rattle.std.specs.Int.{bit_at}
use Rattle.ccan_confine.specs.declared.controller.Controller.{Controller}
use Rattle.ccan_confine.specs.Bits.{bit, part, flag}
use Rattle.ccan_confine.specs.BitTiming.{register_in, extension_in}
use Rattle.ccan_confine.specs.Controller.{packed, packed_flags, packed_numbers, packed_timing, flags_part, unpacked, IsController}
use Rattle.std.proofs.Common.{false, inl, inr, nat_le, cond}
use Rattle.std.proofs.lemmas.Bool.Decides.{leb_tells}
use Rattle.ccan_confine.specs.Counters.{Counts, is_recovering, new_counts}
use Rattle.ccan_confine.specs.Controller.{counts_grouped, controller_after, clears_init_of}
use Rattle.ccan_confine.specs.RegisterWords.{control_with}
use Rattle.ccan_confine.specs.Counters.{counts_cleared}
use Rattle.ccan_confine.specs.declared.controller_change.ControllerChange.{ControllerChange}
use Rattle.ccan_confine.specs.declared.controller_change.ControllerChange.TheVariants as change
use Rattle.ccan_confine.specs.ControllerLaws.{OneWord}
use Rattle.ccan_confine.proofs.Flags.{flag-le, bit-flag}

module _ (c : Controller) (w : ℕ) (is : IsController c) (word : packed c ≡ w) where
  limits : (flag c.status.tx_ok ≤ 1) × (flag c.status.rx_ok ≤ 1) × (flag c.transfer_pending ≤ 1) × (flag c.level_pending ≤ 1)
      × (flag c.counters.init_cleared ≤ 1) × (flag c.control.init ≤ 1) × (flag c.control.ie ≤ 1) × (flag c.control.sie ≤ 1)
      × (flag c.control.eie ≤ 1) × (flag c.control.dar ≤ 1) × (flag c.control.cce ≤ 1) × (flag c.control.test ≤ 1)
      × (flag c.test.basic ≤ 1) × (flag c.test.silent ≤ 1) × (flag c.test.lback ≤ 1)
  limits = (
    flag-le c.status.tx_ok,
    flag-le c.status.rx_ok,
    flag-le c.transfer_pending,
    flag-le c.level_pending,
    flag-le c.counters.init_cleared,
    flag-le c.control.init,
    flag-le c.control.ie,
    flag-le c.control.sie,
    flag-le c.control.eie,
    flag-le c.control.dar,
    flag-le c.control.cce,
    flag-le c.control.test,
    flag-le c.test.basic,
    flag-le c.test.silent,
    flag-le c.test.lback,
  )

  small : packed_numbers c < 2 ^ 27
  small = omega (arith, is.tec, is.rec, is.groups, is.lec)

  few : packed_flags c < 2 ^ 15
  few = omega (arith, limits)

  high : flags_part w ≡ packed_flags c
  high = omega (arith, word, small, few)

  timely : packed_timing c < 2 ^ 19
  timely = omega (arith, is.register, is.extension)

  timing : part w 42 19 ≡ packed_timing c
  timing = omega (arith, word, small, few, timely)

  top : (flag c.has_left ≤ 1) × (flag c.control.pdr ≤ 1)
  top = (flag-le c.has_left, flag-le c.control.pdr)

  left_is : bit w 61 ≡ c.has_left
  left_is = bit-flag w 61 c.has_left (omega (arith, word, small, few, timely, top))

  pdr_is : bit w 62 ≡ c.control.pdr
  pdr_is = bit-flag w 62 c.control.pdr (omega (arith, word, small, few, timely, top))

  register_is : register_in (part w 42 15) ≡ c.timing.register
  register_is = omega (arith, timing, is.register)

  extension_is : extension_in (part w 57 4) ≡ c.timing.extension
  extension_is = omega (arith, timing, is.register, is.extension)

  low : part w 0 27 ≡ packed_numbers c
  low = omega (arith, word, small)

  rec_is : part w 0 8 ≡ c.counters.levels.rec
  rec_is = omega (arith, low, is.tec, is.rec, is.groups, is.lec)

  tec_is : part w 8 9 ≡ c.counters.levels.tec
  tec_is = omega (arith, low, is.tec, is.rec, is.groups, is.lec)

  groups_is : part w 17 7 ≡ c.counters.groups
  groups_is = omega (arith, low, is.tec, is.rec, is.groups, is.lec)

  lec_is : part w 24 3 ≡ c.status.lec
  lec_is = omega (arith, low, is.tec, is.rec, is.groups, is.lec)

  tec_min : min (part w 8 9) 263 ≡ c.counters.levels.tec
  tec_min = omega (arith, tec_is, is.tec)

  at_place : (k : ℕ) (on : Bool) → bit_at (packed_flags c) k ≡ flag on → bit (flags_part w) k ≡ on
  at_place k on e = bit-flag (flags_part w) k on (ap (λ (n : ℕ). bit_at n k) high ∙ e)

  b0 : bit (flags_part w) 0 ≡ c.status.tx_ok
  b0 = at_place 0 c.status.tx_ok (omega (arith, limits))

  b1 : bit (flags_part w) 1 ≡ c.status.rx_ok
  b1 = at_place 1 c.status.rx_ok (omega (arith, limits))

  b2 : bit (flags_part w) 2 ≡ c.transfer_pending
  b2 = at_place 2 c.transfer_pending (omega (arith, limits))

  b3 : bit (flags_part w) 3 ≡ c.level_pending
  b3 = at_place 3 c.level_pending (omega (arith, limits))

  b4 : bit (flags_part w) 4 ≡ c.counters.init_cleared
  b4 = at_place 4 c.counters.init_cleared (omega (arith, limits))

  b5 : bit (flags_part w) 5 ≡ c.control.init
  b5 = at_place 5 c.control.init (omega (arith, limits))

  b6 : bit (flags_part w) 6 ≡ c.control.ie
  b6 = at_place 6 c.control.ie (omega (arith, limits))

  b7 : bit (flags_part w) 7 ≡ c.control.sie
  b7 = at_place 7 c.control.sie (omega (arith, limits))

  b8 : bit (flags_part w) 8 ≡ c.control.eie
  b8 = at_place 8 c.control.eie (omega (arith, limits))

  b9 : bit (flags_part w) 9 ≡ c.control.dar
  b9 = at_place 9 c.control.dar (omega (arith, limits))

  b10 : bit (flags_part w) 10 ≡ c.control.cce
  b10 = at_place 10 c.control.cce (omega (arith, limits))

  b11 : bit (flags_part w) 11 ≡ c.control.test
  b11 = at_place 11 c.control.test (omega (arith, limits))

  b12 : bit (flags_part w) 12 ≡ c.test.basic
  b12 = at_place 12 c.test.basic (omega (arith, limits))

  b13 : bit (flags_part w) 13 ≡ c.test.silent
  b13 = at_place 13 c.test.silent (omega (arith, limits))

  b14 : bit (flags_part w) 14 ≡ c.test.lback
  b14 = at_place 14 c.test.lback (omega (arith, limits))

  pub read_back : unpacked w ≡ c
  read_back = λ i.
      record {
        counters =
            record {
              host = sym is.host i;
              levels = record { tec = tec_min i; rec = rec_is i };
              init_cleared = b4 i;
              groups = groups_is i;
            };
        control =
            record { init = b5 i; ie = b6 i; sie = b7 i; eie = b8 i; dar = b9 i; cce = b10 i; test = b11 i; pdr = pdr_is i };
        status = record { tx_ok = b0 i; rx_ok = b1 i; lec = lec_is i };
        transfer_pending = b2 i;
        level_pending = b3 i;
        test = record { basic = b12 i; silent = b13 i; lback = b14 i };
        timing = record { register = register_is i; extension = extension_is i };
        has_left = left_is i;
      }

-- a word tells its controller
pub one_word : OneWord
one_word c d ic id e = sym (read_back c (packed d) ic e) ∙ read_back d (packed d) id refl

-- groups of recessive bits, by the cases of the call
pub grouped_is : (n : ℕ) (counts new : Counts) → (is_recovering counts ≡ false → new ≡ counts)
    → (is_recovering counts ≡ true → counts.groups + n < 128 → new ≡ record counts { groups = counts.groups + n })
    → (is_recovering counts ≡ true → 128 ≤ counts.groups + n → new ≡ new_counts counts.host) → new ≡ counts_grouped n counts
grouped_is n counts new ignored counted back = by (is_recovering counts) refl where
  by_groups : is_recovering counts ≡ true → (b : Bool) → nat_le 128 (counts.groups + n) ≡ b
      → new ≡ cond b (new_counts counts.host) (record counts { groups = counts.groups + n })
  by_groups is true e = elim (leb_tells 128 (counts.groups + n)) [
    | inl h ↦ back is h.1
    | inr h ↦ (let both : true ≡ false = sym e ∙ h.0 in absurd cc)
  ]
  by_groups is false e = elim (leb_tells 128 (counts.groups + n)) [
    | inl h ↦ (let both : true ≡ false = sym h.0 ∙ e in absurd cc)
    | inr h ↦ counted is h.1
  ]

  by : (b : Bool) → is_recovering counts ≡ b → new ≡ counts_grouped n counts
  by true is =
      by_groups is (nat_le 128 (counts.groups + n)) refl
      ∙ sym (ap (λ (b : Bool). cond b (cond (nat_le 128 (counts.groups + n)) (new_counts counts.host)
      (record counts { groups = counts.groups + n })) counts) is)
  by false is =
      ignored is
      ∙ sym (ap (λ (b : Bool). cond b (cond (nat_le 128 (counts.groups + n)) (new_counts counts.host)
      (record counts { groups = counts.groups + n })) counts) is)

-- a change leaves whose counters they are
one_host : (b : Bool) (x y : Counts) (h : Bool) → x.host ≡ h → y.host ≡ h → (cond b x y).host ≡ h
one_host true x y h e f = e
one_host false x y h e f = f

pub host_after : (z : ControllerChange) (c : Controller) → c.counters.host ≡ true → (controller_after z c).counters.host ≡ true
host_after (change.Frame event happened) c is = is
host_after (change.Recessive n) c is =
    one_host (is_recovering c.counters)
    (cond (nat_le 128 (c.counters.groups + n)) (new_counts c.counters.host)
    (record c.counters { groups = c.counters.groups + n })) c.counters true
    (one_host (nat_le 128 (c.counters.groups + n)) (new_counts c.counters.host)
    (record c.counters { groups = c.counters.groups + n }) true is is) is
host_after change.ReadStatus c is = is
host_after change.ReadAndClearStatus c is = is
host_after (change.WriteStatus flags) c is = is
host_after (change.WriteControl control) c is =
    one_host (clears_init_of c control) (counts_cleared c.counters) c.counters true is is
host_after (change.WriteControlBits which to) c is =
    one_host (clears_init_of c (control_with which to c.control)) (counts_cleared c.counters) c.counters true is is
host_after (change.WriteTest test) c is = is
host_after (change.WriteBitTiming word) c is = is
host_after (change.WriteExtension word) c is = is
host_after (change.WriteTiming register extension) c is = is
host_after change.Reset c is = refl
host_after change.ResetDcan c is = refl
host_after change.Join c is = is
host_after change.PowerDown c is = is
