-- One word for all objects: a version is the whole memory, and any two changes contend. Source: this project's own.
use Rattle.std.specs.Prelude.{ℕ, zero, suc, ◌+◌, ◌-◌, ◌*◌, ◌/◌, ◌%◌, Bool, true, List, [], ◌++◌}
use Rattle.ccan_object.specs.declared.profile.Profile.{Profile}
use Rattle.ccan_object.specs.Profile.{objects_in}
use Rattle.ccan_object.specs.Packing.{packed}
use Rattle.ccan_ram.specs.History.{record_at, History}
use Rattle.ccan_words.specs.Layout.{Form}

-- the one word has a cache line of its own; after it, each port has room for 64 versions of at most 192 words
abbrev pub root_place : ℕ → ℕ → ℕ
root_place n j = 8 + (n / 65536) * 12288 + (n % 65536 - 1) * 192 + j

abbrev pub any_object : ℕ → ℕ → Bool
any_object i k = true

-- the packed records of n objects from object k on
unfoldable pub records_from : ℕ → ℕ → History → List ℕ
records_from k zero h = []
records_from k (suc n) h = packed (record_at k h) ++ records_from (k + 1) n h

-- the packed records of all objects
unfoldable pub image : Profile → History → List ℕ
image profile h = records_from 1 (objects_in profile) h

-- an object's record among them
abbrev pub root_offset : ℕ → ℕ
root_offset k = (k - 1) * 3

abbrev pub root_form : (profile : Profile) → Form profile 64 any_object
root_form profile =
    record {
      size = 36872;
      cells = 8;
      width = objects_in profile * 3;
      cell = λ _. 0;
      place = root_place;
      offset = root_offset;
      content = image profile;
    }
