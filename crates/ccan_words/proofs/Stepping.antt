-- From a step on a memory's words to the step on its table, whose rule reads the table's key.
use Rattle.std.proofs.Common.{◌≡◌, ℕ, ◌+◌, ◌<◌, Bool, sym, ap, ◌∙◌, subst, arith, lit≤}
use Rattle.atomic_table.specs.Seated.{TableId}
use Rattle.atomic_table.specs.Table.{Allows}
use Rattle.ccan_object.specs.declared.profile.Profile.{Profile}
use Rattle.ccan_object.specs.declared.profile.Profile.TheVariants.{One, Two}
use Rattle.ccan_object.specs.Profile.{Holds}
use Rattle.ccan_ram.specs.declared.port.PortName.{PortName}
use Rattle.ccan_ram.specs.History.{changes_by}
use Rattle.ccan_ram.specs.SharedRam.{Memory}
use Rattle.ccan_words.specs.declared.words.Key.{Key}
use Rattle.ccan_words.specs.Layout.{Form, Lies, IsNumber}
use Rattle.ccan_words.specs.Rule.{Keeps}
use Rattle.ccan_words.specs.Plays.{Knows, IsNoting}
use Rattle.ccan_words.specs.Port.{numbers_of, memory_in}
use Rattle.ccan_words.specs.Words.{AreWords}
use Rattle.ccan_words.proofs.Ports.{WordSeat}
use Rattle.ccan_words.proofs.SeatMoves.{TableState}
use Rattle.ccan_words.proofs.Tables.{same_table}

-- every memory has object 1
pub first_held : (profile : Profile) → Holds profile 1
first_held One = record { least = lit≤ tt; greatest = lit≤ tt }
first_held Two = record { least = lit≤ tt; greatest = lit≤ tt }

-- a port's next version has the number of a change
pub next_is_number : {most : ℕ} {p : PortName} {number j : ℕ} {m : Knows} → IsNoting most p number j m → IsNumber most number
next_is_number {most} {p} {number} {j} {m} noting =
    let few = noting.few in
    record { port = p; count = changes_by p noting.x.seen + 1; is = noting.next; from_one = omega arith; up_to = omega arith }

-- where a memory's words and versions are
module _ {profile : Profile} {most : ℕ} {contends : ℕ → ℕ → Bool} {F : Form profile most contends} (lies : Lies F) where
  pub cell_inside : {k word : ℕ} → Holds profile k → word ≡ F.cell k → word < F.size
  cell_inside {k} {word} held is = let cell = lies.cells k held in let above = lies.above in omega arith

  pub place_inside : {n j word : ℕ} → IsNumber most n → j < F.width → word ≡ F.place n j → word < F.size
  place_inside {n} {j} {word} number inside is = let place = (lies.fits n j number inside).1 in omega arith

  pub first_inside : F.cell 1 < F.size
  first_inside = let cell = lies.cells 1 (first_held profile) in let above = lies.above in omega arith

module _ {most : ℕ} {contends : ℕ → ℕ → Bool} (form : (u : Profile) → Form u most contends) {key own : Key}
    (keys : key ≡ own) where
  -- what holds by the rule of the memory's key holds by that of the table's
  pub by_key : (holds : (TableState → Type 0) → Type 0)
      → holds (Keeps (form own.profile)) → holds (Keeps (form key.profile))
  by_key holds h = subst (λ (k : Key). holds (Keeps (form k.profile))) (sym keys) h

  module _ {table : TableId} (words : AreWords (form own.profile) table) {memory : Memory}
      (is : memory_in table own.profile own.quota ≡ memory) where
    pub profile_is : own.profile ≡ memory.profile
    profile_is = ap (λ (m : Memory). m.profile) is

    -- a seat that has the memory's name is one of its table
    pub of_table : {seat : TableId} → numbers_of seat ≡ memory.name → seat ≡ table
    of_table {seat} named = same_table seat table (named ∙ ap (λ (m : Memory). m.name) (sym is))

    -- a seat may take a step on a word
    pub may_step : (seat : WordSeat) → numbers_of seat.table_id ≡ memory.name → {deed : Profile} → deed ≡ memory.profile
        → (word : ℕ) → word < (form own.profile).size → (f : ℕ → ℕ) (told : (u : Profile) → ℕ → Knows → Type 0)
        → Allows (Keeps (form own.profile)) table.slots seat.id seat.me word f (told own.profile)
        → (seat.table_id ≡ table) × (word < table.words)
        × Allows (Keeps (form key.profile)) table.slots seat.id seat.me word f (told deed)
    may_step seat named {deed} to_deed word inside f told step = (
      of_table named,
      (let wide = words.wide in omega arith),
      by_key (λ (rule : TableState → Type 0). Allows rule table.slots seat.id seat.me word f (told deed))
          (subst (λ (u : Profile). Allows (Keeps (form own.profile)) table.slots seat.id seat.me word f (told u))
          (profile_is ∙ sym to_deed) step),
    )
