-- The table of a memory's words. Source: this project's own.
use Rattle.std.specs.Prelude.{◌≡◌, ℕ, Bool}
use Rattle.atomic_table.specs.Seated.{TableId}
use Rattle.ccan_object.specs.declared.profile.Profile.{Profile}
use Rattle.ccan_words.specs.Layout.{Form}

-- the table has the words of the form, and no slots
pub record AreWords {profile : Profile} {most : ℕ} {contends : ℕ → ℕ → Bool} (F : Form profile most contends) (table : TableId) :
    Type 0 where
  pub wide : table.words ≡ F.size
  pub no_slots : table.slots ≡ 0
