-- The entity of a sequencer with repeat counters.
use Rattle.std.specs.Prelude.{ℕ, List, [], ◌∷◌, ◌++◌, codes, decimal, length}
use Rattle.std.specs.List.{concat, flat_map, range_with_len}
use Rattle.repeat_sequencer.specs.declared.sequencer.Sequencer.{Sequencer}
use Rattle.sequencer_text.specs.declared.sequencer.EntityName.{EntityName}
use Rattle.sequencer_text.specs.declared.sequencer.EntityName.TheVariants.{Control, Loop, Fires, Get, Put}
use Rattle.sequencer_text.specs.declared.sequencer.EndPart.{EndPart}
use Rattle.sequencer_text.specs.declared.sequencer.EndPart.TheVariants.{Tables, Signals, Lines, Turns}
use Rattle.sequencer_text.specs.declared.tables.EndColumn.TheVariants.{Level, First, Count}
use Rattle.sequencer_text.specs.Tables.{end_table, most_ends, most_turns}
use Rattle.vhdl_text.specs.Numbered.{with_number}

abbrev pub library_lines : List ℕ
library_lines = codes "\nlibrary ieee;\nuse ieee.std_logic_1164.all;\nuse ieee.numeric_std.all;\n"

-- a name of a number, and of two
abbrev pub numbered : List ℕ → ℕ → List ℕ
numbered before a = concat (before ∷ decimal a ∷ [])

abbrev pub paired : List ℕ → ℕ → ℕ → List ℕ
paired before a b = concat (before ∷ decimal a ∷ codes "_" ∷ decimal b ∷ [])

-- the sequencer of process p's script, or of what its loop n gains; of its fires, or of a port of it at channel c
abbrev pub name_text : EntityName → List ℕ
name_text (Control p) = numbered (codes "control_") p
name_text (Loop p n) = paired (codes "loop_") p n
name_text (Fires p) = numbered (codes "fire_") p
name_text (Get p c) = paired (codes "get_") p c
name_text (Put p c) = paired (codes "put_") p c

-- so many instructions
abbrev pub sequencer_entity : EntityName → ℕ → List ℕ
sequencer_entity name count = concat (
    library_lines ∷ codes "entity " ∷ name_text name
    ∷ codes " is\n  port (\n    clk : in std_logic;\n    rst : in std_logic;\n    again : in std_logic;\n    step : in std_logic;\n    at : out integer range 0 to "
    ∷ decimal count ∷ codes "\n  );\nend entity;\n" ∷ [])

abbrev pub sequencer_types : EntityName → ℕ → List ℕ
sequencer_types name turns = concat (
    codes "architecture rtl of " ∷ name_text name
    ∷ codes " is\n  type codes is array (natural range <>) of integer;\n  type counts is array (natural range <>) of integer range 0 to "
    ∷ decimal turns ∷ codes ";\n" ∷ [])

-- the tables of the repeats of place j
abbrev pub end_tables : {T : Type 0} → Sequencer T → ℕ → List ℕ
end_tables sequencer j =
    end_table Level j sequencer ++ (end_table First j sequencer ++ end_table Count j sequencer)

abbrev pub sequencer_signals : ℕ → ℕ → List ℕ
sequencer_signals count levels = concat (
    codes "  signal pc : integer range 0 to " ∷ decimal count
    ∷ codes " := 0;\n  signal turns : counts(0 to " ∷ decimal levels
    ∷ codes ") := (others => 0);\n" ∷ [])

-- a reset, and the end, behind which all begins anew while that is asked for
abbrev pub sequencer_head : ℕ → List ℕ
sequencer_head count = with_number count (
    codes "  process (clk)\n    variable ends : boolean;\n    variable target : integer range 0 to "
    ∷ codes ";\n  begin\n    if rising_edge(clk) then\n      if rst = '1' then\n        pc <= 0;\n        turns <= (others => 0);\n      elsif pc = "
    ∷ codes " then\n        if again = '1' then\n          pc <= 0;\n        end if;\n      elsif step = '1' then\n        ends := true;\n        target := pc + 1;\n" ∷ [])

abbrev pub sequencer_end : ℕ → List ℕ
sequencer_end count = with_number count (
    codes "        if target = "
    ∷ codes " and again = '1' then\n          pc <= 0;\n        else\n          pc <= target;\n        end if;\n      end if;\n    end if;\n  end process;\nend architecture;\n" ∷ [])

-- What there is for place j of repeats that end: its tables, signals of what these have at the instruction, the lines that drive
-- the signals, and what is done where the repeats of the places before it have ended.
abbrev pub end_part_text : {T : Type 0} → EndPart → Sequencer T → ℕ → List ℕ
end_part_text Tables sequencer j = end_tables sequencer j
end_part_text Signals sequencer j = with_number j (
    codes "  signal level" ∷ codes "_here, first" ∷ codes "_here, count"
    ∷ codes "_here : integer;\n" ∷ [])
end_part_text Lines sequencer j = with_number j (
    codes "  level" ∷ codes "_here <= level" ∷ codes "(pc);\n  first" ∷ codes "_here <= first"
    ∷ codes "(pc);\n  count" ∷ codes "_here <= count" ∷ codes "(pc);\n" ∷ [])
end_part_text Turns sequencer j = with_number j (
    codes "        if ends and count" ∷ codes "_here > 0 then\n          if turns(level"
    ∷ codes "_here) + 1 < count" ∷ codes "_here then\n            turns(level"
    ∷ codes "_here) <= turns(level" ∷ codes "_here) + 1;\n            target := first"
    ∷ codes "_here;\n            ends := false;\n          else\n            turns(level"
    ∷ codes "_here) <= 0;\n          end if;\n        end if;\n" ∷ [])

-- the same for each place of repeats that end
abbrev pub for_ends : {T : Type 0} → EndPart → Sequencer T → List ℕ
for_ends part sequencer =
    flat_map (end_part_text part sequencer) (range_with_len 0 (most_ends sequencer))

-- a sequencer as an entity with its architecture: a counter for the instruction, and one for each level of repeats
abbrev pub sequencer_text : {T : Type 0} → EntityName → Sequencer T → List ℕ
sequencer_text name sequencer =
    let count : ℕ = length sequencer.instructions in
    concat (
    sequencer_entity name count ∷ sequencer_types name (most_turns sequencer)
    ∷ for_ends Tables sequencer ∷ sequencer_signals count sequencer.levels
    ∷ for_ends Signals sequencer ∷ codes "begin\n  at <= pc;\n" ∷ for_ends Lines sequencer
    ∷ sequencer_head count ∷ for_ends Turns sequencer ∷ sequencer_end count ∷ [])
