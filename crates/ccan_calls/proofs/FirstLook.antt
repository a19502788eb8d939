-- The first of the looks at one object that wait for a flag. The definition of a wait has the last look first, and a process the
-- first one.
use Rattle.std.proofs.Common.{ℕ, suc, ◌≡◌, ◌<◌, ◌⊎◌, ◌||◌, inl, inr, Bool, true, false, List, [], ◌∷◌, ◌++◌, length, refl, sym, ap, subst, ◌∙◌, append_assoc, arith}
use Rattle.std.proofs.lemmas.Bool.{false≢true}
use Rattle.std.proofs.lemmas.List.{append-nil}
use Rattle.std.specs.List.{list_any}
use Rattle.ccan_object.specs.declared.record.Record.{Record}
use Rattle.ccan_ram.specs.declared.event.Event.{Event}
use Rattle.ccan_ram.specs.declared.flag.Flag.{Flag}
use Rattle.ccan_ram.specs.Attempt.{IsLook}
use Rattle.ccan_ram.specs.Flags.{flag_of}
use Rattle.ccan_ram.specs.Terms.{Terms}
use Rattle.ccan_handler.specs.Watch.{Looks, Watches}

neither : (a b : Bool) → (a || b) ≡ false → (a ≡ false) × (b ≡ false)
neither true b h = absurd (false≢true (sym h))
neither false b h = (refl, h)

none_of : (a b : Bool) → a ≡ false → b ≡ false → (a || b) ≡ false
none_of a b quiet rest = ap (λ (c : Bool). c || b) quiet ∙ rest

module _ (terms : Terms) (object : ℕ) where
  abbrev LooksThere : List Record → List Event → Type 0
  LooksThere shown added = Looks terms (λ before. object) shown added

  -- one look before the others
  looks_in : (shown : List Record) (later : List Event) (found : Record) (first : List Event) → LooksThere shown later
      → IsLook terms object found first → LooksThere (shown ++ (found ∷ [])) (later ++ first)
  looks_in [] later found first none look =
      (first, [], ap (λ es. es ++ first) none ∙ sym (append-nil first), look, refl)
  looks_in (last ∷ before) later found first (newest, earlier, whole, seen_last, rest) look = (
    newest,
    earlier ++ first,
    ap (λ es. es ++ first) whole ∙ append_assoc newest earlier first,
    seen_last,
    looks_in before earlier found first rest look,
  )

  -- the first look, and the others
  record FirstOf (shown : List Record) (added : List Event) : Type 0 where
    found : Record
    others : List Record
    first : List Event
    later : List Event
    is : shown ≡ others ++ (found ∷ [])
    whole : added ≡ later ++ first
    look : IsLook terms object found first
    rest : LooksThere others later

  looks_out : (last : Record) (before : List Record) (added : List Event) → LooksThere (last ∷ before) added
      → FirstOf (last ∷ before) added
  looks_out last [] added (newest, earlier, whole, look, none) = record {
    found = last;
    others = [];
    first = newest;
    later = [];
    is = refl;
    whole = whole ∙ ap (λ es. newest ++ es) none ∙ append-nil newest;
    look = look;
    rest = refl;
  }
  looks_out last (b ∷ before) added (newest, earlier, whole, look, rest) =
      let h = looks_out b before earlier rest in
      record {
        found = h.found;
        others = last ∷ h.others;
        first = h.first;
        later = newest ++ h.later;
        is = ap (λ (l : List Record). last ∷ l) h.is;
        whole = whole ∙ ap (λ es. newest ++ es) h.whole ∙ sym (append_assoc newest h.later h.first);
        look = h.look;
        rest = (newest, h.later, refl, look, h.rest);
      }

  module _ (flag : Flag) where
    abbrev shows : Record → Bool
    shows = flag_of flag

    -- none of the records shows the flag exactly if the first does not, and none of the others
    none_in : (others : List Record) (found : Record) → list_any shows others ≡ false → shows found ≡ false
        → list_any shows (others ++ (found ∷ [])) ≡ false
    none_in [] found none hides = none_of (shows found) false hides refl
    none_in (o ∷ others) found none hides =
        let (here, there) = neither (shows o) (list_any shows others) none in
        none_of (shows o) (list_any shows (others ++ (found ∷ []))) here (none_in others found there hides)

    none_out : (others : List Record) (found : Record) → list_any shows (others ++ (found ∷ [])) ≡ false
        → (list_any shows others ≡ false) × (shows found ≡ false)
    none_out [] found none = (refl, (neither (shows found) false none).0)
    none_out (o ∷ others) found none =
        let (here, there) = neither (shows o) (list_any shows (others ++ (found ∷ []))) none in
        let (rest, hides) = none_out others found there in
        (none_of (shows o) (list_any shows others) here rest, hides)

    length_in : (others : List Record) (found : Record) → length (others ++ (found ∷ [])) ≡ suc (length others)
    length_in [] found = refl
    length_in (o ∷ others) found = ap suc (length_in others found)

    -- a wait of one turn or more: its first look, and if that does not show the flag, the rest of it
    pub record Begins (turns : ℕ) (added : List Event) (shown : Bool) : Type 0 where
      pub found : Record
      pub first : List Event
      pub later : List Event
      pub whole : added ≡ later ++ first
      pub look : IsLook terms object found first
      pub on : ((shows found ≡ true) × (shown ≡ true) × (later ≡ []))
          ⊎ ((shows found ≡ false) × Watches terms object flag turns later shown)

    none_begins : (turns : ℕ) (added : List Event) (shown : List Record) → LooksThere shown added → length shown ≡ suc turns
        → list_any shows shown ≡ false → Begins turns added false
    none_begins turns added [] looks counted none = absurd (omega (arith, counted))
    none_begins turns added (last ∷ before) looks counted none =
        let h = looks_out last before added looks in
        let (rest, hides) = none_out h.others h.found (subst (λ l. list_any shows l ≡ false) h.is none) in
        let count : length h.others ≡ turns =
        omega (arith, counted, ap length h.is, length_in h.others h.found) in
        record {
          found = h.found;
          first = h.first;
          later = h.later;
          whole = h.whole;
          look = h.look;
          on = inr (hides, record { shown = h.others; looks = h.rest; counted = count; none = rest });
        }

    shown_begins : (turns : ℕ) (added : List Event) (count : ℕ) → count < suc turns → (last : Record) (before : List Record)
        → LooksThere (last ∷ before) added → length before ≡ count → list_any shows before ≡ false → shows last ≡ true
        → Begins turns added true
    shown_begins turns added count less last [] (newest, earlier, whole, look, none) counted hidden is = record {
      found = last;
      first = newest;
      later = [];
      whole = whole ∙ ap (λ es. newest ++ es) none ∙ append-nil newest;
      look = look;
      on = inl (is, refl, refl);
    }
    shown_begins turns added count less last (b ∷ before) (newest, earlier, whole, look, rest) counted hidden is =
        let h = looks_out b before earlier rest in
        let (none, hides) = none_out h.others h.found (subst (λ l. list_any shows l ≡ false) h.is hidden) in
        let many : suc (length h.others) ≡ count = sym (ap length h.is ∙ length_in h.others h.found) ∙ counted in
        record {
          found = h.found;
          first = h.first;
          later = newest ++ h.later;
          whole = whole ∙ ap (λ es. newest ++ es) h.whole ∙ sym (append_assoc newest h.later h.first);
          look = h.look;
          on = inr (
            hides,
            (
              length h.others,
              omega (arith, less, many),
              record {
                last = last;
                before = h.others;
                looks = (newest, h.later, refl, look, h.rest);
                counted = refl;
                none = none;
                shows = is;
              },
            ),
          );
        }

    pub begins : (turns : ℕ) (added : List Event) (shown : Bool) → Watches terms object flag (suc turns) added shown
        → Begins turns added shown
    begins turns added true (count, less, first) =
        shown_begins turns added count less first.last first.before first.looks first.counted first.none first.shows
    begins turns added false none = none_begins turns added none.shown none.looks none.counted none.none

    -- and the other way round
    pub shows_first : (turns : ℕ) (added : List Event) (found : Record) → IsLook terms object found added → shows found ≡ true
        → Watches terms object flag (suc turns) added true
    shows_first turns added found look is = (
      0,
      omega arith,
      record {
        last = found;
        before = [];
        looks = (added, [], sym (append-nil added), look, refl);
        counted = refl;
        none = refl;
        shows = is;
      },
    )

    pub hides_first : (turns : ℕ) (first later : List Event) (found : Record) (shown : Bool) → IsLook terms object found first
        → shows found ≡ false → Watches terms object flag turns later shown
        → Watches terms object flag (suc turns) (later ++ first) shown
    hides_first turns first later found true look hides (count, less, fs) = (
      suc count,
      omega (arith, less),
      record {
        last = fs.last;
        before = fs.before ++ (found ∷ []);
        looks = looks_in (fs.last ∷ fs.before) later found first fs.looks look;
        counted = length_in fs.before found ∙ ap suc fs.counted;
        none = none_in fs.before found fs.none hides;
        shows = fs.shows;
      },
    )
    hides_first turns first later found false look hides none = record {
      shown = none.shown ++ (found ∷ []);
      looks = looks_in none.shown later found first none.looks look;
      counted = length_in none.shown found ∙ ap suc none.counted;
      none = none_in none.shown found none.none hides;
    }

    -- a wait without a turn
    pub watches_none : (added : List Event) (shown : Bool) → Watches terms object flag 0 added shown
        → (added ≡ []) × (shown ≡ false)
    watches_none added true (count, less, first) = absurd (omega (arith, less))
    watches_none added false none = by none.shown none.looks none.counted
      where
        by : (shown : List Record) → LooksThere shown added → length shown ≡ 0 → (added ≡ []) × (false ≡ false)
        by [] looks counted = (looks, refl)
        by (last ∷ before) looks counted = absurd (omega (arith, counted))
