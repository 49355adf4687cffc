-- For every input a contract determines what its function answers, and what it leaves of what was lent: any two results that it allows are equal. One part
-- for each public function that asks nothing, about the contract that stands in its code (`Post`: see Tied), and for both programs' report and two of layout's.
-- The exceptions are listed in docs/DECISIONS.md, 'What a contract leaves open'.
use Prim.Native.Nat.{ℕ}
use mathlib.Core.Path.{◌≡◌, sym, ap, ◌∙◌}
use mathlib.Core.List.{List}
use Rattle.std.specs.Prelude.{Result}
use Rattle.layout.proofs.all.Reads as All
use Rattle.layout.proofs.both.Reads as BothTests
use Rattle.layout.proofs.either.Reads as Either
use Rattle.layout.proofs.field.Reads as Field
use Rattle.layout.proofs.least.Reads as Least
use Rattle.layout.proofs.pick.Reads as Pick
use Rattle.layout.proofs.put_field.Reads as PutField
use Rattle.layout.proofs.wide32.Reads as Wide
use Rattle.packet.specs.declared.Counter.{Counter}
use Rattle.packet.specs.Reading.{Reading}
use Rattle.packet.specs.Writing.{Writing}
use Rattle.packet.specs.Answer.{Answer, Gives}
use Rattle.packet.specs.Said.{read_said, write_said}
use Rattle.packet.specs.declared.Refusal.{Refusal}
use Rattle.packet.specs.declared.Rows.{Rows}
use Rattle.packet.specs.declared.Written.{Written}
use Rattle.packet.proofs.AnswerLaws.{one-result}
use Rattle.packet.proofs.SaidLaws.{read_only, write_only, check_only, kind_only}
use Rattle.packet.proofs.Counter.fresh.Reads as Fresh
use Rattle.packet.proofs.Refusal.whole.Reads as Whole
use Rattle.packet.proofs.gap8.Reads as GapOne
use Rattle.packet.proofs.gap16.Reads as GapTwo
use Rattle.packet.proofs.kind.Reads as Kind
use Rattle.packet.proofs.part_check.Reads as Check
use Rattle.packet.proofs.part.Reads as Part
use Rattle.lent.specs.Told.{Told, Tells, told_said}
use Rattle.lent.proofs.ToldLaws.{one_telling, told_only}
use Rattle.lent.proofs.advance.Reads as Advance
use Rattle.lengths.proofs.crowded.Reads as Crowded
use Rattle.plan.proofs.joined.Reads as Joined
use Rattle.plan.proofs.Plan.most.Reads as Most
use Rattle.plan.proofs.Plan.rests.Reads as Rests
use Rattle.usb.proofs.shape.Reads as UsbShape
use Rattle.usb_plan.proofs.plan_for.Reads as UsbPlanFor
use Rattle.usb_reader.proofs.read.Reads as UsbRead
use Rattle.usb_writer.proofs.write.Reads as UsbWrite
use Rattle.words.proofs.same.Reads as SameWord
use Rattle.keywords.proofs.says.Reads as Says
use Rattle.passing.specs.declared.Names.{Names}
use Rattle.passing.proofs.Names.new.Reads as NoNames
use Rattle.description.proofs.DescribedLaws.{described_only}
use Rattle.description.proofs.Endpoint.setting.Reads as EndpointSetting
use Rattle.settings.proofs.settings.Reads as Settings
use Rattle.flexray.proofs.listed.Reads as FlexRayListed
use Rattle.flexray_plan.proofs.further.Reads as FlexRayFurther
use Rattle.flexray_plan.proofs.plan_for.Reads as FlexRayPlanFor
use Rattle.flexray_reader.proofs.read.Reads as FlexRayRead
use Rattle.flexray_writer.proofs.write.Reads as FlexRayWrite
use Rattle.udp.proofs.plan_of.Reads as UdpPlanOf
use Rattle.udp.proofs.sound.Reads as UdpSound
use Rattle.udp_reader.proofs.read.Reads as UdpRead
use Rattle.udp_writer.proofs.write.Reads as UdpWrite
use Rattle.lending.specs.declared.Lent.{Lent}
use Rattle.lending.specs.Lends.{Lends}
use Rattle.lending.proofs.usb_lent.Reads as LendUsb
use Rattle.lending.proofs.flexray_lent.Reads as LendFlexRay
use Rattle.lending.proofs.udp_lent.Reads as LendUdp
use Rattle.spelling.proofs.ReportLaws.{one_report}
use Rattle.spelling.proofs.Page.new.Reads as NewPage
use Rattle.rowtext.proofs.report.Reads as Report
use Rattle.settingtext.proofs.argument.Reads as Argument
use Rattle.settingtext.proofs.report.Reads as SettingReport
use Rattle.plumagemud.proofs.ResultLaws.{one_read, one_written}
use Rattle.plumagemud.proofs.xcp_usb_settings.Reads as CSettings
use Rattle.plumagemud.proofs.xcp_usb_read.Reads as CUsbRead
use Rattle.plumagemud.proofs.xcp_usb_write.Reads as CUsbWrite
use Rattle.plumagemud.proofs.xcp_flexray_read.Reads as CFlexRayRead
use Rattle.plumagemud.proofs.xcp_flexray_write.Reads as CFlexRayWrite
use Rattle.plumagemud.proofs.xcp_udp_read.Reads as CUdpRead
use Rattle.plumagemud.proofs.xcp_udp_write.Reads as CUdpWrite
use Rattle.plumagemud.proofs.xcp_part_check.Reads as CCheck
use Rattle.plumagemud.proofs.xcp_kind.Reads as CKind

-- A contract of the lifetimes x, the parameters a, the answer, and the parameters as the call leaves them
module _ {X : Type 0} {A R E : X → Type 0} where
  infixl 20 ◌allows-one
  infixl 20 ◌allows-one-and◌
  -- any two answers r and u that it allows are equal, where e and f are what the call leaves
  abbrev pub ◌allows-one : ((x : X) → A x → R x → E x → Type 0) → Type 0
  ◌allows-one Post = (x : X) (a : A x) (r u : R x) (e f : E x) → Post x a r e → Post x a u f → r ≡ u

  -- the same of an answer and of what is left of what was lent, which `left` takes out of e
  abbrev pub ◌allows-one-and◌ : ((x : X) → A x → R x → E x → Type 0) → ((x : X) → E x → List ℕ) → Type 0
  ◌allows-one-and◌ Post left = (x : X) (a : A x) (r u : R x) (e f : E x) → Post x a r e → Post x a u f → (r ≡ u) × (left x e ≡ left x f)

-- what is equal to one thing is equal
same : {A E : Type 0} {x : A} (r u : A) (e f : E) → r ≡ x → u ≡ x → r ≡ u
same r u e f g h = g ∙ sym h

---- Readers and writers --------------------------------------------------------------------------------------------------------

-- what is said of one answer is said by one result
read_once : {a : Answer Reading} {r u : Result Rows Refusal} {left past : List ℕ} → Gives a (read_said r) left → Gives a (read_said u) past
    → (r ≡ u) × (left ≡ past)
read_once g h = let (answer, rows) = one-result g h in (read_only answer, rows)

write_once : {a : Answer Writing} {r u : Result Written Refusal} {left past : List ℕ} → Gives a (write_said r) left → Gives a (write_said u) past
    → (r ≡ u) × (left ≡ past)
write_once g h = let (answer, out) = one-result g h in (write_only answer, out)

-- the answer, and the table or the output
pub usb : (UsbRead.Post allows-one-and λ x e. e.1.1.1.0.now) × (UsbWrite.Post allows-one-and λ x e. e.1.1.1.1.1.1.0.now)
usb = (λ x a r u e f. read_once, λ x a r u e f. write_once)

pub flexray : (FlexRayRead.Post allows-one-and λ x e. e.1.1.1.0.now) × (FlexRayWrite.Post allows-one-and λ x e. e.1.1.1.1.1.0.now)
flexray = (λ x a r u e f. read_once, λ x a r u e f. write_once)

pub udp : (UdpRead.Post allows-one-and λ x e. e.1.1.1.0.now) × (UdpWrite.Post allows-one-and λ x e. e.1.1.1.1.0.now)
udp = (λ x a r u e f. read_once, λ x a r u e f. write_once)

-- with the state lent, by what the clauses of each read_lent come to (Tied `usb-lent`, `flexray-lent`, `udp-lent`): what is told, the state and the table
pub read_lent : {a : Answer Reading} {c : Counter} (r u : Told) (d e : Counter) (left past : List ℕ) → Tells a c r d left → Tells a c u e past
    → (r ≡ u) × (d ≡ e) × (left ≡ past)
read_lent r u d e left past = one_telling

-- .. so it is one result that each of them gives, as `advance` gives it
pub lent : {a : Answer Reading} {c : Counter} {r u : Result ℕ Refusal} {d e : Counter} {left past : List ℕ} → Tells a c (told_said r) d left
    → Tells a c (told_said u) e past → (r ≡ u) × (d ≡ e) × (left ≡ past)
lent g h = let (told, state, rows) = one_telling g h in (told_only told, state, rows)

pub advance : (x : _) (a : _) (r u : _) (e f : _) → Advance.Post x a r e → Advance.Post x a u f → (r ≡ u) × (e.1.0.now ≡ f.1.0.now)
advance x a r u e f g h = (told_only (g.0 ∙ sym h.0), g.1 ∙ sym h.1)

-- and of lending's functions: what was told with the state that is given back, and the table
one_lent : {a : Answer Reading} {c : Counter} {r u : Lent} {left past : List ℕ} → Lends a c r left → Lends a c u past → (r ≡ u) × (left ≡ past)
one_lent {r = r} {u = u} g h =
    let (told, state, rows) = lent g h in
    let held : Result ℕ Refusal → Counter → Lent = λ x d. record { told = x; state = d } in
    (ap (λ x. held x r.state) told ∙ ap (held u.told) state, rows)

pub lending : (LendUsb.Post allows-one-and λ x e. e.1.1.1.0.now) × (LendFlexRay.Post allows-one-and λ x e. e.1.1.1.0.now)
    × (LendUdp.Post allows-one-and λ x e. e.1.1.1.0.now)
lending = (λ x a r u e f. one_lent, λ x a r u e f. one_lent, λ x a r u e f. one_lent)

---- C --------------------------------------------------------------------------------------------------------------------------

pub c_read : (CUsbRead.Post allows-one-and λ x e. e.1.1.1.0.now) × (CFlexRayRead.Post allows-one-and λ x e. e.1.1.1.0.now)
    × (CUdpRead.Post allows-one-and λ x e. e.1.1.1.0.now)
c_read = (λ x a r u e f. one_read, λ x a r u e f. one_read, λ x a r u e f. one_read)

pub c_write : (CUsbWrite.Post allows-one-and λ x e. e.1.1.1.1.1.1.0.now) × (CFlexRayWrite.Post allows-one-and λ x e. e.1.1.1.1.1.0.now)
    × (CUdpWrite.Post allows-one-and λ x e. e.1.1.1.1.0.now)
c_write = (λ x a r u e f. one_written, λ x a r u e f. one_written, λ x a r u e f. one_written)

pub c_others : (CSettings.Post allows-one) × (CCheck.Post allows-one) × (CKind.Post allows-one)
c_others = (λ x a. same, λ x a. same, λ x a. same)

---- The programs ---------------------------------------------------------------------------------------------------------------

-- the length of the text, and the output; what is left of the table is not told (docs/DECISIONS.md)
pub reports : (Report.Post allows-one-and λ x e. e.1.1.0.now) × (SettingReport.Post allows-one-and λ x e. e.1.1.0.now)
reports = (λ x a r u e f. one_report, λ x a r u e f. one_report)

-- where a page begins, and what stands there
pub page : (x : _) (a : _) (r u : _) (e f : _) → NewPage.Post x a r e → NewPage.Post x a u f → (r.out.now ≡ u.out.now) × (r.at ≡ u.at)
page x a r u e f g h = (g.1.0 ∙ sym h.1.0, g.1.1 ∙ sym h.1.1)

-- the longest packet, from the program's argument
pub argument : Argument.Post allows-one
argument x a = same

---- Settings -------------------------------------------------------------------------------------------------------------------

-- from the description file; what a header number comes to
pub settings : (Settings.Post allows-one) × (UsbShape.Post allows-one) × (FlexRayListed.Post allows-one)
settings = (λ x a r u e f g h. described_only (g ∙ sym h), λ x a. same, λ x a. same)

-- a plan of numbers, its most bytes, and the layouts that have rests; the plan of a setting, or that it is not sound
pub plans : (Joined.Post allows-one) × (Most.Post allows-one) × (Rests.Post allows-one) × (UsbPlanFor.Post allows-one)
    × (FlexRayFurther.Post allows-one) × (FlexRayPlanFor.Post allows-one) × (UdpSound.Post allows-one) × (UdpPlanOf.Post allows-one)
plans = (λ x a. same, λ x a. same, λ x a. same, λ x a. same, λ x a. same, λ x a. same, λ x a. same, λ x a. same)

---- The text of a description --------------------------------------------------------------------------------------------------

-- whether two words are the same, what a word says, no names, and an endpoint's setting
pub text : (SameWord.Post allows-one) × (Says.Post allows-one) × (EndpointSetting.Post allows-one)
text = (λ x a. same, λ x a. same, λ x a. same)

pub no_names : NoNames.Post allows-one
no_names x a r u e f g h =
    let names : _ → _ → Names = λ p d. record { places = p; depth = d } in
    ap (λ p. names p r.depth) (g.1 ∙ sym h.1) ∙ ap (names u.places) (g.0 ∙ sym h.0)

---- Packets --------------------------------------------------------------------------------------------------------------------

pub packet : (Fresh.Post allows-one) × (GapOne.Post allows-one) × (GapTwo.Post allows-one) × (Kind.Post allows-one) × (Check.Post allows-one)
    × (Whole.Post allows-one)
packet = (
  λ x a. same,
  λ x a. same,
  λ x a. same,
  λ x a r u e f g h. kind_only (g ∙ sym h),
  λ x a r u e f g h. check_only (g ∙ sym h),
  λ x a. same,
)

-- the bytes that the part shows
pub part : (x : _) (a : _) (r u : _) (e f : _) → Part.Post x a r e → Part.Post x a u f → r.now ≡ u.now
part x a r u e f = same r.now u.now e f

---- What writers check ---------------------------------------------------------------------------------------------------------

pub crowded : Crowded.Post allows-one
crowded x a = same

---- Fields, numbers and tests --------------------------------------------------------------------------------------------------

pub numbers : (Field.Post allows-one) × (Wide.Post allows-one) × (Least.Post allows-one) × (Pick.Post allows-one)
numbers = (λ x a r u e f g h. same r u e f g.is h.is, λ x a r u e f g h. same r u e f g.0 h.0, λ x a. same, λ x a. same)

pub tests : (BothTests.Post allows-one) × (All.Post allows-one) × (Either.Post allows-one)
tests = (λ x a. same, λ x a. same, λ x a. same)

-- the bytes that are left
pub put_field : (x : _) (a : _) (r u : _) (e f : _) → PutField.Post x a r e → PutField.Post x a u f → e.0.now ≡ f.0.now
put_field x a r u e f = same e.0.now f.0.now e f
