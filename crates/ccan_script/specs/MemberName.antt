-- The names of the members of lines and frames. Source: this project's own.
use Rattle.std.specs.Prelude.{ℕ, List, codes}
use Rattle.ccan_script.specs.declared.member_name.MemberName.{MemberName}
use Rattle.ccan_script.specs.declared.member_name.MemberName.TheVariants as name

abbrev pub name_text : MemberName → List ℕ
name_text name.Op = codes "op"
name_text name.Request = codes "request"
name_text name.Set = codes "set"
name_text name.Object = codes "object"
name_text name.Flag = codes "flag"
name_text name.Turns = codes "turns"
name_text name.Send = codes "send"
name_text name.Fault = codes "fault"
name_text name.Sie = codes "sie"
name_text name.Eie = codes "eie"
name_text name.Node = codes "node"
name_text name.Groups = codes "groups"
name_text name.On = codes "on"
name_text name.Id = codes "id"
name_text name.Xtd = codes "xtd"
name_text name.Rtr = codes "rtr"
name_text name.Dlc = codes "dlc"
name_text name.Data = codes "data"
