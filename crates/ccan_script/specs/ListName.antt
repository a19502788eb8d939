-- The names of a script's parts in a refusal. Source: this project's own.
use Rattle.std.specs.Prelude.{ℕ, List, codes}
use Rattle.ccan_script.specs.declared.list_name.ListName.{ListName}
use Rattle.ccan_script.specs.declared.list_name.ListName.TheVariants.{Top, If1, If2, Bus, Order, Before}

abbrev pub list_text : ListName → List ℕ
list_text Top = codes "top"
list_text If1 = codes "if1"
list_text If2 = codes "if2"
list_text Bus = codes "bus"
list_text Order = codes "order"
list_text Before = codes "before"
