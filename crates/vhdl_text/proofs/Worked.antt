-- The text of a worked node, and of parts of others, computed from the definitions. Each line was spelled by hand.
--
-- The whole node is process 1 of the network of in x[1]; out y[1]; for (i = 0; i < 1; i++) y[i] = x[i] + 1;. The text
-- of the expression stands in one line of it, so the node is shown for any expression, and that text for itself.
use Rattle.std.proofs.Common.{◌≡◌, ℕ, pos, negsuc, true, false, List, [], ◌∷◌, ◌++◌, codes, refl}
use Rattle.std.specs.Fmt.{digits}
use Rattle.std.specs.List.{concat}
use Rattle.wrap_expr.specs.declared.expr.Expr.{Expr, Add, Const, Given, Mul, Read, Var}
use Rattle.wrap_expr.specs.declared.expr.Expr.TheOpen as layer
use Rattle.sanlp.specs.declared.nest.Role.TheVariants as role
use Rattle.sanlp.proofs.Folds.{fold_add, fold_const, fold_given, fold_mul, fold_read, fold_var}
use Rattle.net_core.specs.declared.network.Channel.{Channel}
use Rattle.net_core.specs.declared.network.Event.{Event}
use Rattle.net_core.specs.declared.network.Event.TheVariants.{Get, Fire, Put}
use Rattle.net_core.specs.declared.refs.Ref.TheVariants.{Zero, Slot}
use Rattle.node_automata.specs.declared.node.NodeAuto.{NodeAuto}
use Rattle.vhdl_text.specs.declared.channels.Part.TheVariants.{PortsIn, PortsOut, Receive, Send}
use Rattle.vhdl_text.specs.declared.constants.Column.TheVariants as column
use Rattle.vhdl_text.specs.Channels.{branch_text, parts_text}
use Rattle.vhdl_text.specs.Constants.{column_values, event_constant}
use Rattle.vhdl_text.specs.declared.expression.Naming.TheVariants.{Arrays}
use Rattle.vhdl_text.specs.Expressions.{expr_step, expr_text}
use Rattle.vhdl_text.specs.Literals.{literal}
use Rattle.vhdl_text.specs.Refusal.{are_too_many}
use Rattle.vhdl_text.specs.VhdlText.{node_text, vhdl_text}

-- Process 1: it gets the one value from channel 0, fires, and puts the result to channel 1.

abbrev increment : Expr → NodeAuto
increment e = record {
  process = 1;
  role = role.Assign;
  depth = 1;
  reads = 1;
  gets = 0 ∷ [];
  puts = 1 ∷ [];
  slots = 1;
  events = Get 0 0 ∷ Fire (Slot 0 ∷ []) ∷ Put 1 ∷ [];
  values = (pos 0 ∷ []) ∷ [];
  expr = e;
}

before_the_expression : List ℕ
before_the_expression =
    concat (
    codes "\n"
    ∷ codes "library ieee;\n"
    ∷ codes "use ieee.std_logic_1164.all;\n"
    ∷ codes "use ieee.numeric_std.all;\n"
    ∷ codes "entity node_1 is\n"
    ∷ codes "  port (\n"
    ∷ codes "    clk : in std_logic;\n"
    ∷ codes "    rst : in std_logic;\n"
    ∷ codes "    c0_valid : in std_logic;\n"
    ∷ codes "    c0_data : in signed(63 downto 0);\n"
    ∷ codes "    c0_take : out std_logic;\n"
    ∷ codes "    c1_ready : in std_logic;\n"
    ∷ codes "    c1_data : out signed(63 downto 0);\n"
    ∷ codes "    c1_give : out std_logic;\n"
    ∷ codes "    done : out std_logic\n"
    ∷ codes "  );\n"
    ∷ codes "end entity;\n"
    ∷ codes "architecture rtl of node_1 is\n"
    ∷ codes "  type codes is array (natural range <>) of integer;\n"
    ∷ codes "  type words is array (natural range <>) of signed(63 downto 0);\n"
    ∷ codes "  constant zero : signed(63 downto 0) := x\"0000000000000000\";\n"
    ∷ codes "  constant op : codes(0 to 3) := (0 => 1, 1 => 2, 2 => 3, 3 => 0);\n"
    ∷ codes "  constant arg : codes(0 to 3) := (0 => 0, 1 => 0, 2 => 1, 3 => 0);\n"
    ∷ codes "  constant dst : codes(0 to 3) := (0 => 0, 1 => 0, 2 => 0, 3 => 0);\n"
    ∷ codes "  constant r0 : codes(0 to 1) := (0 => 0, 1 => -1);\n"
    ∷ codes "  constant v0 : words(0 to 1) := (0 => x\"0000000000000000\", 1 => x\"0000000000000000\");\n"
    ∷ codes "  signal pc : integer range 0 to 3 := 0;\n"
    ∷ codes "  signal slot : words(0 to 1);\n"
    ∷ codes "  signal fired : signed(63 downto 0);\n"
    ∷ codes "  function pick(b : words; r : integer) return signed is\n"
    ∷ codes "  begin\n"
    ∷ codes "    if r < 0 then\n"
    ∷ codes "      return zero;\n"
    ∷ codes "    else\n"
    ∷ codes "      return b(r);\n"
    ∷ codes "    end if;\n"
    ∷ codes "  end function;\n"
    ∷ codes "  function mul(a, b : signed(63 downto 0)) return signed is\n"
    ∷ codes "    variable p : signed(127 downto 0);\n"
    ∷ codes "  begin\n"
    ∷ codes "    p := a * b;\n"
    ∷ codes "    return p(63 downto 0);\n"
    ∷ codes "  end function;\n"
    ∷ codes "  function least(a, b : signed(63 downto 0)) return signed is\n"
    ∷ codes "  begin\n"
    ∷ codes "    if a < b then\n"
    ∷ codes "      return a;\n"
    ∷ codes "    else\n"
    ∷ codes "      return b;\n"
    ∷ codes "    end if;\n"
    ∷ codes "  end function;\n"
    ∷ codes "  function most(a, b : signed(63 downto 0)) return signed is\n"
    ∷ codes "  begin\n"
    ∷ codes "    if a < b then\n"
    ∷ codes "      return b;\n"
    ∷ codes "    else\n"
    ∷ codes "      return a;\n"
    ∷ codes "    end if;\n"
    ∷ codes "  end function;\n"
    ∷ codes "begin\n"
    ∷ codes "  c0_take <= '1' when op(pc) = 1 and arg(pc) = 0 else '0';\n"
    ∷ codes "  c1_data <= fired;\n"
    ∷ codes "  c1_give <= '1' when op(pc) = 3 and arg(pc) = 1 else '0';\n"
    ∷ codes "  done <= '1' when op(pc) = 0 else '0';\n"
    ∷ codes "  process (clk)\n"
    ∷ codes "  begin\n"
    ∷ codes "    if rising_edge(clk) then\n"
    ∷ codes "      if rst = '1' then\n"
    ∷ codes "        pc <= 0;\n"
    ∷ codes "      else\n"
    ∷ codes "        case op(pc) is\n"
    ∷ codes "          when 1 =>\n"
    ∷ codes "            if arg(pc) = 0 and c0_valid = '1' then\n"
    ∷ codes "              slot(dst(pc)) <= c0_data;\n"
    ∷ codes "              pc <= pc + 1;\n"
    ∷ codes "            end if;\n"
    ∷ codes "          when 2 =>\n"
    ∷ codes "            fired <= " ∷ [])

behind_the_expression : List ℕ
behind_the_expression =
    concat (
    codes "            pc <= pc + 1;\n"
    ∷ codes "          when 3 =>\n"
    ∷ codes "            if arg(pc) = 1 and c1_ready = '1' then\n"
    ∷ codes "              pc <= pc + 1;\n"
    ∷ codes "            end if;\n"
    ∷ codes "          when others =>\n"
    ∷ codes "            null;\n"
    ∷ codes "        end case;\n"
    ∷ codes "      end if;\n"
    ∷ codes "    end if;\n"
    ∷ codes "  end process;\n"
    ∷ codes "end architecture;\n"
    ∷ [])

whole_node : (e : Expr)
    → node_text (increment e) ≡ before_the_expression ++ ((expr_text Arrays e ++ codes ";\n") ++ behind_the_expression)
unfolding before_the_expression behind_the_expression digits literal
whole_node e = refl

-- Expressions

one_more : expr_text Arrays (Add (Read 0) (Const (pos 1))) ≡ codes "(pick(slot, r0(arg(pc))) + signed'(x\"0000000000000001\"))"
unfolding digits literal
one_more = simp (fold_add, fold_read, fold_const)

product : expr_text Arrays (Mul Given (Var 2)) ≡ codes "mul(given, v2(arg(pc)))"
unfolding digits
product = simp (fold_mul, fold_given, fold_var)

-- the others, where the operands have the texts a and b

difference : expr_step Arrays (layer.Sub (codes "a") (codes "b")) ≡ codes "(a - b)"
difference = refl

least : expr_step Arrays (layer.Min (codes "a") (codes "b")) ≡ codes "least(a, b)"
least = refl

most : expr_step Arrays (layer.Max (codes "a") (codes "b")) ≡ codes "most(a, b)"
most = refl

negation : expr_step Arrays (layer.Neg (codes "a")) ≡ codes "(zero - a)"
negation = refl

-- Values: 16 digits of the two's complement

two_hundred_fifty_five : literal (pos 255) ≡ codes "x\"00000000000000ff\""
unfolding literal
two_hundred_fifty_five = refl

minus_one : literal (negsuc 0) ≡ codes "x\"ffffffffffffffff\""
unfolding literal
minus_one = refl

least_value : literal (negsuc 9223372036854775807) ≡ codes "x\"8000000000000000\""
unfolding literal
least_value = refl

-- Constants: two fires, of which each has one read without a token

abbrev two_fires : List Event
two_fires = Get 4 1 ∷ Fire (Zero ∷ Slot 1 ∷ []) ∷ Put 2 ∷ Get 4 0 ∷ Fire (Slot 0 ∷ Zero ∷ []) ∷ Put 2 ∷ []

kinds : column_values column.Op two_fires
    ≡ codes "1" ∷ codes "2" ∷ codes "3" ∷ codes "1" ∷ codes "2" ∷ codes "3" ∷ []
unfolding digits
kinds = refl

-- channel 4, fire 0, channel 2, channel 4, fire 1, channel 2
arguments : column_values column.Arg two_fires
    ≡ codes "4" ∷ codes "0" ∷ codes "2" ∷ codes "4" ∷ codes "1" ∷ codes "2" ∷ []
unfolding digits
arguments = refl

slots : column_values column.Dst two_fires
    ≡ codes "1" ∷ codes "0" ∷ codes "0" ∷ codes "0" ∷ codes "0" ∷ codes "0" ∷ []
unfolding digits
slots = refl

first_read : column_values (column.Read 0) two_fires ≡ codes "-1" ∷ codes "0" ∷ []
unfolding digits
first_read = refl

second_read : column_values (column.Read 1) two_fires ≡ codes "1" ∷ codes "-1" ∷ []
unfolding digits
second_read = refl

-- A process without points, with channel 4 from itself to itself

abbrev loop : Expr → NodeAuto
loop e = record {
  process = 0;
  role = role.Assign;
  depth = 0;
  reads = 1;
  gets = 4 ∷ [];
  puts = 4 ∷ [];
  slots = 0;
  events = [];
  values = [];
  expr = e;
}

no_event : (e : Expr) → event_constant column.Op (loop e) ≡ codes "  constant op : codes(0 to 0) := (0 => 0);\n"
unfolding digits
no_event e = refl

no_fire : (e : Expr) → event_constant (column.Read 0) (loop e) ≡ codes "  constant r0 : codes(0 to 0) := (0 => -1);\n"
unfolding digits
no_fire e = refl

own_in : (e : Expr)
    → parts_text PortsIn (loop e) (4 ∷ [])
    ≡ codes "    c4_valid : in std_logic;\n    c4_in : in signed(63 downto 0);\n    c4_take : out std_logic;\n"
unfolding digits
own_in e = refl

own_out : (e : Expr)
    → parts_text PortsOut (loop e) (4 ∷ [])
    ≡ codes "    c4_ready : in std_logic;\n    c4_data : out signed(63 downto 0);\n    c4_give : out std_logic;\n"
unfolding digits
own_out e = refl

own_received : (e : Expr)
    → branch_text Receive (loop e) (4 ∷ [])
    ≡ concat (
    codes "            if arg(pc) = 4 and c4_valid = '1' then\n"
    ∷ codes "              slot(dst(pc)) <= c4_in;\n"
    ∷ codes "              pc <= pc + 1;\n"
    ∷ codes "            end if;\n" ∷ [])
unfolding digits
own_received e = refl

no_channel : (e : Expr) → branch_text Send (loop e) [] ≡ codes "            null;\n"
no_channel e = refl

-- The text of two channels of whatever class, without nodes

channel_lines : (c : Channel)
    → vhdl_text
    (record {
      processes = [];
      channels =
          record c { writer = 0; reader = 1; capacity = 3 } ∷ record c { writer = 1; reader = 12; capacity = 10 } ∷ [];
    }) []
    ≡ concat (
    codes "-- compaan vhdl 1\n"
    ∷ codes "-- channel 0 node_0 node_1 capacity 3\n"
    ∷ codes "-- channel 1 node_1 node_12 capacity 10\n" ∷ [])
unfolding digits
channel_lines c = refl

-- The longest script that a node may have

longest : are_too_many 65536 ≡ false
longest = refl

one_too_many : are_too_many 65537 ≡ true
one_too_many = refl
