-- Reads and writes of words of 32 bits are their processes.
use Rattle.std.proofs.Common.{ℕ, ◌≡◌, ◌↔◌, ◌⊎◌, inl, inr, ◌+◌, ◌*◌, ◌/◌, ◌%◌, ◌^◌, ◌==◌, Bool, true, false, Option, Some, None, Ok, [], ◌++◌, refl, sym, ap, subst, ◌∙◌, if◌then◌else◌}
use Rattle.std.specs.Prelude.{MatchBool}
use Rattle.std.specs.Option.{option_map_or}
use Rattle.std.proofs.lemmas.Bool.{false≢true}
use Rattle.ccan_object.specs.Bits.{part}
use Rattle.ccan_confine.specs.declared.controller_change.ControllerChange.TheVariants.{WriteControl, WriteTiming}
use Rattle.ccan_confine.specs.RegisterWords.{control_in}
use Rattle.ccan_ram.specs.declared.flag.Flag.{Flag}
use Rattle.ccan_ram.specs.Terms.{Terms}
use Rattle.ccan_process.specs.Process.{Ended}
use Rattle.ccan_endless.specs.Chip.{ChipHistory}
use Rattle.ccan_chip.specs.declared.flag_part.FlagPart.{FlagPart}
use Rattle.ccan_chip.specs.declared.map.Map.{Map}
use Rattle.ccan_chip.specs.declared.register.Register.TheVariants.{BitTiming, Control, ControlUpper, Extension}
use Rattle.ccan_chip.specs.FlagPart.{index_of}
use Rattle.ccan_registers.specs.declared.interface_set.InterfaceSet.{InterfaceSet}
use Rattle.ccan_registers.specs.ChipSteps.{Then}
use Rattle.ccan_registers.specs.Dcan.{asks_for_reset}
use Rattle.ccan_registers.specs.Objects.{ShowsFlags}
use Rattle.ccan_registers.specs.Register.{AreFlags, ReadsApart, ReadsAt, ReadsControl, ReadsFlags, ReadsHalves, ReadsTiming, ReadsWord, WritesApart, WritesAt, WritesControl, WritesControlWord, WritesController, WritesHalves, WritesTiming, WritesWord, both_written, is_refused, joined}
use Rattle.ccan_calls.specs.Offsets.{FlagWord, are_halves, flag_word_at}
use Rattle.ccan_calls.specs.Parts.{flag_shown}
use Rattle.ccan_calls.specs.Process.{LooksAtController, Process, ending}
use Rattle.ccan_calls.specs.ReadProcess.{Word, reads_at, shows}
use Rattle.ccan_calls.specs.Runs.{Runs}
use Rattle.ccan_calls.specs.WordProcess.{OffEnd, control_word_shown, flag_word_shown, reads_flags, reads_halves, reads_other_word, reads_word, shows_word, some_written, timing_word, writes_control_word, writes_halves, writes_word}
use Rattle.ccan_calls.specs.WriteProcess.{WriteEnd, WriteProcess, Written, change_controller, keeping, writes_at}
use Rattle.ccan_calls.proofs.Interrupts.{shows_flag}
use Rattle.ccan_calls.proofs.Processes.{chosen, ends_so, follow, follows, one_act, only_first}
use Rattle.ccan_calls.proofs.ReadsRun.{read_at}
use Rattle.ccan_calls.proofs.WordsFound.{IsFlagFound, control_is, control_so, flag_found, no_control, no_timing, not_both, one_flag, timing_is, timing_so}
use Rattle.ccan_calls.proofs.WritesRun.{resets_so, write_at, writes_controller}

-- ---- one half, and then the other one unless the first was refused

module _ {A B : Type 0} (terms : Terms) (tries : ℕ) (first : Process A) (seen added : ChipHistory) (result : B) where
  pub half_by : (b : Bool) (middle : A) (stop : B) (next : Process B)
      → MatchBool b (Runs terms tries first seen added middle × (result ≡ stop))
      (Then (λ s a. Runs terms tries first s a middle) (λ s a. Runs terms tries next s a result) seen added)
      ↔ Then (λ s a. Runs terms tries first s a middle)
      (λ s a. Runs terms tries (if b then Ended stop else next) s a result) seen added
  half_by true middle stop next = (
    λ h. record { earlier = added; later = []; whole = refl; begins = h.0; ends = (refl, h.1) },
    λ h.
        let same = only_first added h.earlier h.later h.whole h.ends.0 in
        (subst (λ es. Runs terms tries first seen es middle) same h.begins, h.ends.1),
  )
  half_by false middle stop next = (λ h. h, λ h. h)

-- ---- a read

module _ (terms : Terms) (tries : ℕ) (map : Map) (offset : ℕ) (own : InterfaceSet) (seen added : ChipHistory)
    (told : Option Word) where
  abbrev Low : Option Word → Process (Option Word)
  Low low = ending (reads_at terms map (offset + 2) own) (λ high. joined low high)

  -- both halves
  abbrev Both : Option Word → Type 0
  Both low =
      (high : Option Word) × Then (λ s a. ReadsAt terms tries map offset own s a low)
      (λ s a. ReadsAt terms tries map (offset + 2) own s a high) seen added × (told ≡ joined low high)

  both_halves : (low : Option Word) → Both low
      ↔ Then (λ s a. Runs terms tries (reads_at terms map offset own) s a low) (λ s a. Runs terms tries (Low low) s a told) seen
      added
  both_halves low =
      let end = λ (s a : ChipHistory). ends_so terms tries (joined low) (reads_at terms map (offset + 2) own) s a told in (
        λ h.
            let (high, steps, is) = h in
            record {
              earlier = steps.earlier;
              later = steps.later;
              whole = steps.whole;
              begins = (read_at terms tries map own seen steps.earlier offset low).0 steps.begins;
              ends = (end (steps.earlier ++ seen) steps.later).1 (
                high,
                (read_at terms tries map own (steps.earlier ++ seen) steps.later (offset + 2) high).0 steps.ends,
                is,
              );
            },
        λ h.
            let (high, on, is) = (end (h.earlier ++ seen) h.later).0 h.ends in (
              high,
              record {
                earlier = h.earlier;
                later = h.later;
                whole = h.whole;
                begins = (read_at terms tries map own seen h.earlier offset low).1 h.begins;
                ends = (read_at terms tries map own (h.earlier ++ seen) h.later (offset + 2) high).1 on;
              },
              is,
            ),
      )

  -- by whether the lower half was refused
  abbrev Half : Bool → Option Word → Type 0
  Half b low = MatchBool b (ReadsAt terms tries map offset own seen added low × (told ≡ low)) (Both low)

  half : (b : Bool) (low : Option Word) → Half b low
      ↔ MatchBool b (Runs terms tries (reads_at terms map offset own) seen added low × (told ≡ low))
      (Then (λ s a. Runs terms tries (reads_at terms map offset own) s a low) (λ s a. Runs terms tries (Low low) s a told) seen
      added)
  half true low =
      let read = read_at terms tries map own seen added offset low in
      (λ h. (read.0 h.0, h.1), λ h. (read.1 h.0, h.1))
  half false low = both_halves low

  read_halves : ReadsHalves terms tries map offset own seen added told
      ↔ Runs terms tries (reads_halves terms map offset own) seen added told
  read_halves =
      let next : Option Word → Process (Option Word) = λ low. if is_refused low then Ended low else Low low in
      let by = λ (low : Option Word).
      half_by terms tries (reads_at terms map offset own) seen added told (is_refused low) low low (Low low) in (
        λ h.
            let (low, so) = h in
            follow terms tries next (reads_at terms map offset own) seen added told
            (low, (by low).0 ((half (is_refused low) low).0 so)),
        λ h.
            let (low, steps) = follows terms tries next (reads_at terms map offset own) seen added told h in
            (low, (half (is_refused low) low).1 ((by low).1 steps)),
      )

  -- ---- words of one kind

  abbrev Kinds : Type 0
  Kinds =
      ReadsFlags terms map offset seen added told ⊎ ReadsTiming terms map offset seen added told
      ⊎ ReadsControl terms map offset seen added told ⊎ ReadsApart terms tries map offset own seen added told

  abbrev NoFlags : Type 0
  NoFlags = (flag : Flag) (low high : FlagPart) → AreFlags map terms.profile offset flag low high → ⊥

  abbrev other_by : Bool → Bool → Process (Option Word)
  other_by timing control =
      if timing then shows_word timing_word
      else (if control then shows_word (control_word_shown map) else reads_halves terms map offset own)

  abbrev are_timing : Bool
  are_timing = are_halves map terms.profile offset BitTiming Extension

  abbrev are_control : Bool
  are_control = are_halves map terms.profile offset Control ControlUpper

  to_other : (timing control : Bool) → are_timing ≡ timing → are_control ≡ control → NoFlags → Kinds
      → Runs terms tries (other_by timing control) seen added told
  to_other timing control is is' none (inl flags) = absurd (none flags.flag flags.low flags.high flags.are)
  to_other true control is is' none (inr (inl t)) =
      (one_act terms tries LooksAtController (λ found. Some (Ok (timing_word found))) seen added told).1
      (t.found, t.looks, t.told_is)
  to_other true control is is' none (inr (inr (inl c))) =
      absurd (not_both map terms.profile offset (timing_is map terms.profile offset is) c.are)
  to_other true control is is' none (inr (inr (inr apart))) = absurd (apart.no_timing (timing_is map terms.profile offset is))
  to_other false control is is' none (inr (inl t)) = absurd (false≢true (sym is ∙ timing_so map terms.profile offset t.are))
  to_other false true is is' none (inr (inr (inl c))) =
      (one_act terms tries LooksAtController (λ found. Some (Ok (control_word_shown map found))) seen added told).1
      (c.found, c.looks, c.told_is)
  to_other false true is is' none (inr (inr (inr apart))) = absurd (apart.no_control (control_is map terms.profile offset is'))
  to_other false false is is' none (inr (inr (inl c))) =
      absurd (false≢true (sym is' ∙ control_so map terms.profile offset c.are))
  to_other false false is is' none (inr (inr (inr apart))) = read_halves.0 apart.halves

  of_other : (timing control : Bool) → are_timing ≡ timing → are_control ≡ control → NoFlags
      → Runs terms tries (other_by timing control) seen added told → Kinds
  of_other true control is is' none on =
      let (found, looks, same) =
      (one_act terms tries LooksAtController (λ found. Some (Ok (timing_word found))) seen added told).0 on in
      inr (inl (record { are = timing_is map terms.profile offset is; found = found; looks = looks; told_is = same }))
  of_other false true is is' none on =
      let (found, looks, same) =
      (one_act terms tries LooksAtController (λ found. Some (Ok (control_word_shown map found))) seen added told).0 on in
      inr (inr (inl (record { are = control_is map terms.profile offset is'; found = found; looks = looks; told_is = same })))
  of_other false false is is' none on = inr (inr (inr (record {
    no_flags = none;
    no_timing = λ are. false≢true (sym is ∙ timing_so map terms.profile offset are);
    no_control = λ are. false≢true (sym is' ∙ control_so map terms.profile offset are);
    halves = read_halves.1 on;
  })))

  -- ---- words of a flag

  flags_read : (flag : Flag) (low high : FlagPart)
      → ((word : ℕ) × ShowsFlags terms flag seen added word × (told ≡ Some (Ok (flag_word_shown (flag, low, high) word))))
      ↔ Runs terms tries (reads_flags (flag, low, high)) seen added told
  flags_read flag low high =
      let end = ends_so terms tries (λ (word : ℕ). Some (Ok (flag_word_shown (flag, low, high) word))) (flag_shown flag) seen
      added told in (
        λ h. let (word, shows, is) = h in end.1 (word, (shows_flag terms tries seen added flag word).0 shows, is),
        λ h. let (word, on, is) = end.0 h in (word, (shows_flag terms tries seen added flag word).1 on, is),
      )

  module _ (flag : Flag) (low high : FlagPart) (are : AreFlags map terms.profile offset flag low high) where
    to_flags : Kinds → Runs terms tries (reads_flags (flag, low, high)) seen added told
    to_flags (inl f) =
        let (same, first, last) =
        one_flag map terms.profile offset flag f.flag low high f.low f.high are f.are in
        (flags_read flag low high).0 (
          f.word,
          subst (λ g. ShowsFlags terms g seen added f.word) same f.shows,
          f.told_is
              ∙ (λ i. Some (Ok (part f.word (16 * index_of (last i)) 16 * 2 ^ 16 + part f.word (16 * index_of (first i)) 16))),
        )
    to_flags (inr (inl t)) = absurd (no_timing map terms.profile offset flag low high are t.are)
    to_flags (inr (inr (inl c))) = absurd (no_control map terms.profile offset flag low high are c.are)
    to_flags (inr (inr (inr apart))) = absurd (apart.no_flags flag low high are)

    of_flags : Runs terms tries (reads_flags (flag, low, high)) seen added told → Kinds
    of_flags on =
        let (word, shows, is) = (flags_read flag low high).1 on in
        inl (record { flag = flag; low = low; high = high; are = are; word = word; shows = shows; told_is = is })

  aligned : (found : Option FlagWord) → IsFlagFound map terms.profile offset found → Kinds
      ↔ Runs terms tries (option_map_or reads_flags found (reads_other_word terms map offset own)) seen added told
  aligned None none = (to_other are_timing are_control refl refl none, of_other are_timing are_control refl refl none)
  aligned (Some (flag, low, high)) are = (to_flags flag low high are, of_flags flag low high are)

  pub read_word : ReadsWord terms tries map offset own seen added told
      ↔ Runs terms tries (reads_word terms map offset own) seen added told
  read_word =
      chosen terms tries seen added told (offset % 4 == 0) _ _ _ _
      (aligned (flag_word_at map terms.profile offset) (flag_found map terms.profile offset)) (λ h. h, λ h. h)

-- ---- a write

some_of : (x y : OffEnd) → x ≡ y → x.0 ≡ y.0
some_of x y is = ap (λ (e : OffEnd). e.0) is

rest_of : (x y : OffEnd) → x ≡ y → x.1 ≡ y.1
rest_of x y is = ap (λ (e : OffEnd). e.1) is

off_end : (told also : Option Written) (left kept : InterfaceSet) → told ≡ also → left ≡ kept
    → ◌≡◌ {A = OffEnd} (told, left) (also, kept)
off_end told also left kept one other = λ i. (one i, other i)

module _ (terms : Terms) (tries : ℕ) (map : Map) (offset value : ℕ) (own : InterfaceSet) (seen added : ChipHistory)
    (told : Option Written) (left : InterfaceSet) where
  -- a register that is there is written
  some_so : (process : WriteProcess) (what : Written → Type 0)
      → ((ended : Written) → what ended ↔ Runs terms tries process seen added (ended, left))
      → ((ended : Written) × what ended × (told ≡ Some ended))
      ↔ Runs terms tries (some_written process) seen added (told, left)
  some_so process what each =
      let end_so : WriteEnd → OffEnd = λ e. (Some e.0, e.1) in
      let end = ends_so terms tries end_so process seen added (told, left) in (
        λ h. let (ended, so, is) = h in end.1 ((ended, left), (each ended).0 so, off_end told (Some ended) left left is refl),
        λ h.
            let (there, on, is) = end.0 h in (
              there.0,
              (each there.0).1 (subst (λ l. Runs terms tries process seen added (there.0, l))
                  (sym (rest_of (told, left) (end_so there) is)) on),
              some_of (told, left) (end_so there) is,
            ),
      )

  -- the upper half, and then the lower one
  abbrev first : Process OffEnd
  first = writes_at terms map (offset + 2) (value / 2 ^ 16) own

  abbrev second : OffEnd → Process OffEnd
  second high = ending (writes_at terms map offset (value % 2 ^ 16) high.1) (λ low. (both_written high.0 low.0, low.1))

  abbrev UpperAt : ChipHistory → ChipHistory → Option Written → InterfaceSet → Type 0
  UpperAt s a high kept = WritesAt terms tries map (offset + 2) (value / 2 ^ 16) own s a high kept

  abbrev LowerAt : InterfaceSet → ChipHistory → ChipHistory → Option Written → Type 0
  LowerAt between s a low = WritesAt terms tries map offset (value % 2 ^ 16) between s a low left

  abbrev LowerThen : OffEnd → Type 0
  LowerThen high =
      (low : Option Written) × Then (λ s a. UpperAt s a high.0 high.1) (λ s a. LowerAt high.1 s a low) seen added
      × (told ≡ both_written high.0 low)

  both_so : (high : OffEnd) → LowerThen high
      ↔ Then (λ s a. Runs terms tries first s a high) (λ s a. Runs terms tries (second high) s a (told, left)) seen added
  both_so high =
      let end_so : OffEnd → OffEnd = λ low. (both_written high.0 low.0, low.1) in
      let end = λ (s a : ChipHistory). ends_so terms tries end_so
      (writes_at terms map offset (value % 2 ^ 16) high.1) s a (told, left) in (
        λ h.
            let (low, steps, is) = h in
            record {
              earlier = steps.earlier;
              later = steps.later;
              whole = steps.whole;
              begins = (write_at terms tries map (offset + 2) (value / 2 ^ 16) own seen steps.earlier high.1 high.0).0 steps.begins;
              ends = (end (steps.earlier ++ seen) steps.later).1 (
                (low, left),
                (write_at terms tries map offset (value % 2 ^ 16) high.1 (steps.earlier ++ seen) steps.later left low).0 steps.ends,
                off_end told (both_written high.0 low) left left is refl,
              );
            },
        λ h.
            let (low, on, is) = (end (h.earlier ++ seen) h.later).0 h.ends in
            let here = subst (λ l. Runs terms tries (writes_at terms map offset (value % 2 ^ 16) high.1) (h.earlier ++ seen) h.later
            (low.0, l)) (sym (rest_of (told, left) (end_so low) is)) on in (
              low.0,
              record {
                earlier = h.earlier;
                later = h.later;
                whole = h.whole;
                begins = (write_at terms tries map (offset + 2) (value / 2 ^ 16) own seen h.earlier high.1 high.0).1 h.begins;
                ends =
                    (write_at terms tries map offset (value % 2 ^ 16) high.1 (h.earlier ++ seen) h.later left low.0).1 here;
              },
              some_of (told, left) (end_so low) is,
            ),
      )

  -- as the definition has it, by whether the upper half was refused
  abbrev UpperHalf : Bool → Option Written → Type 0
  UpperHalf b high =
      MatchBool b (UpperAt seen added high left × (told ≡ high))
      ((low : Option Written) × (between : InterfaceSet)
      × Then (λ s a. UpperAt s a high between) (λ s a. LowerAt between s a low) seen added × (told ≡ both_written high low))

  -- and as the process has it
  abbrev RanHalf : Bool → OffEnd → Type 0
  RanHalf b high =
      MatchBool b (Runs terms tries first seen added high × ◌≡◌ {A = OffEnd} (told, left) high)
      (Then (λ s a. Runs terms tries first s a high) (λ s a. Runs terms tries (second high) s a (told, left)) seen added)

  to_half : (b : Bool) (high : Option Written) → UpperHalf b high → (kept : InterfaceSet) × RanHalf b (high, kept)
  to_half true high (upper, is) = (
    left,
    (
      (write_at terms tries map (offset + 2) (value / 2 ^ 16) own seen added left high).0 upper,
      off_end told high left left is refl,
    ),
  )
  to_half false high (low, between, steps, is) = (between, (both_so (high, between)).0 (low, steps, is))

  of_half : (b : Bool) (high : OffEnd) → RanHalf b high → UpperHalf b high.0
  of_half true high (on, is) =
      let upper = (write_at terms tries map (offset + 2) (value / 2 ^ 16) own seen added high.1 high.0).1 on in (
        subst (λ l. UpperAt seen added high.0 l) (sym (rest_of (told, left) high is)) upper,
        some_of (told, left) high is,
      )
  of_half false high steps =
      let (low, then_low, is) = (both_so high).1 steps in
      (low, high.1, then_low, is)

  write_halves : WritesHalves terms tries map offset value own seen added told left
      ↔ Runs terms tries (writes_halves terms map offset value own) seen added (told, left)
  write_halves =
      let next : OffEnd → Process OffEnd = λ high. if is_refused high.0 then Ended high else second high in
      let by = λ (high : OffEnd). half_by {B = OffEnd} terms tries first seen added (told, left) (is_refused high.0) high high
      (second high) in (
        λ h.
            let (high, so) = h in
            let (kept, ran) = to_half (is_refused high) high so in
            follow terms tries next first seen added (told, left) ((high, kept), (by (high, kept)).0 ran),
        λ h.
            let (high, steps) = follows terms tries next first seen added (told, left) h in
            (high.0, of_half (is_refused high.0) high ((by high).1 steps)),
      )

  -- ---- words of one kind

  control_written : (ended : Written) → WritesControlWord terms tries map value own seen added ended left
      ↔ Runs terms tries (writes_control_word terms map value own) seen added (ended, left)
  control_written ended =
      chosen terms tries seen added (ended, left) (asks_for_reset map Control (value % 2 ^ 16)) _ _ _ _
      (resets_so terms tries own seen added ended left)
      (writes_controller terms tries own seen added ended left (WriteControl (control_in value)))

  abbrev timing_change : WriteProcess
  timing_change = keeping own (change_controller (WriteTiming (value % 2 ^ 16) (value / 2 ^ 16)))

  timing_so_written : ((ended : Written)
      × WritesController terms (WriteTiming (value % 2 ^ 16) (value / 2 ^ 16)) tries own seen added ended left
      × (told ≡ Some ended)) ↔ Runs terms tries (some_written timing_change) seen added (told, left)
  timing_so_written =
      some_so timing_change
      (λ ended. WritesController terms (WriteTiming (value % 2 ^ 16) (value / 2 ^ 16)) tries own seen added ended left)
      (λ ended. writes_controller terms tries own seen added ended left (WriteTiming (value % 2 ^ 16) (value / 2 ^ 16)))

  control_so_written : ((ended : Written) × WritesControlWord terms tries map value own seen added ended left
      × (told ≡ Some ended))
      ↔ Runs terms tries (some_written (writes_control_word terms map value own)) seen added (told, left)
  control_so_written =
      some_so (writes_control_word terms map value own)
      (λ ended. WritesControlWord terms tries map value own seen added ended left) control_written

  abbrev WrittenKinds : Type 0
  WrittenKinds =
      WritesTiming terms tries map offset value own seen added told left
      ⊎ WritesControl terms tries map offset value own seen added told left
      ⊎ WritesApart terms tries map offset value own seen added told left

  abbrev written_by : Bool → Bool → Process OffEnd
  written_by timing control =
      if timing then some_written timing_change
      else (if control then some_written (writes_control_word terms map value own) else writes_halves terms map offset value own)

  abbrev timing_there : Bool
  timing_there = are_halves map terms.profile offset BitTiming Extension

  abbrev control_there : Bool
  control_there = are_halves map terms.profile offset Control ControlUpper

  to_written : (timing control : Bool) → timing_there ≡ timing → control_there ≡ control → WrittenKinds
      → Runs terms tries (written_by timing control) seen added (told, left)
  to_written true control is is' (inl t) = timing_so_written.0 (t.ended, t.writes, t.told_is)
  to_written true control is is' (inr (inl c)) =
      absurd (not_both map terms.profile offset (timing_is map terms.profile offset is) c.are)
  to_written true control is is' (inr (inr apart)) = absurd (apart.no_timing (timing_is map terms.profile offset is))
  to_written false control is is' (inl t) = absurd (false≢true (sym is ∙ timing_so map terms.profile offset t.are))
  to_written false true is is' (inr (inl c)) = control_so_written.0 (c.ended, c.writes, c.told_is)
  to_written false true is is' (inr (inr apart)) = absurd (apart.no_control (control_is map terms.profile offset is'))
  to_written false false is is' (inr (inl c)) = absurd (false≢true (sym is' ∙ control_so map terms.profile offset c.are))
  to_written false false is is' (inr (inr apart)) = write_halves.0 apart.halves

  of_written : (timing control : Bool) → timing_there ≡ timing → control_there ≡ control
      → Runs terms tries (written_by timing control) seen added (told, left) → WrittenKinds
  of_written true control is is' on =
      let (ended, writes, same) = timing_so_written.1 on in
      inl (record { are = timing_is map terms.profile offset is; ended = ended; writes = writes; told_is = same })
  of_written false true is is' on =
      let (ended, writes, same) = control_so_written.1 on in
      inr (inl (record { are = control_is map terms.profile offset is'; ended = ended; writes = writes; told_is = same }))
  of_written false false is is' on = inr (inr (record {
    no_timing = λ are. false≢true (sym is ∙ timing_so map terms.profile offset are);
    no_control = λ are. false≢true (sym is' ∙ control_so map terms.profile offset are);
    halves = write_halves.1 on;
  }))

  no_word : ((added ≡ []) × (told ≡ None) × (left ≡ own))
      ↔ Runs {A = OffEnd} terms tries (Ended (None, own)) seen added (told, left)
  no_word = (
    λ h. (h.0, off_end told None left own h.1 h.2),
    λ h. (h.0, some_of (told, left) (None, own) h.1, rest_of (told, left) (None, own) h.1),
  )

  pub write_word : WritesWord terms tries map offset value own seen added told left
      ↔ Runs terms tries (writes_word terms map offset value own) seen added (told, left)
  write_word =
      chosen terms tries seen added (told, left) (offset % 4 == 0) _ _ _ _
      (to_written timing_there control_there refl refl, of_written timing_there control_there refl refl) no_word
