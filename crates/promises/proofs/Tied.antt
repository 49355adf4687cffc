-- The promises are about the functions' own contracts. A module `Reads` is what Rattle makes of the clauses that stand in a function's code: `Asked` is its
-- `requires`, and `Post` its `ensures`, of the lifetimes x, the parameters a, the answer r, and the parameters as the call leaves them, e. Parameters are
-- `a.0`, `a.1.0`, `a.1.1.0` and so on; what code says of an answer is told in the definitions' words (`read_said` and the like). Each line shows that
-- nothing is asked, and that the code ensures what the promises speak of: a clause that
-- asks for something, or says less, is refused here.
use mathlib.Core.Path.{◌≡◌, refl}
use mathlib.Core.Bool.{not}
use lib.Dec.{eqb}
use Rattle.packet.specs.Counter.{fresh}
use Rattle.packet.specs.Kind.{kind_of}
use Rattle.packet.specs.Part.{part_of, check_of}
use Rattle.packet.specs.Said.{kind_said, read_said, write_said, check_said}
use Rattle.packet.proofs.Counter.fresh.Reads as Fresh
use Rattle.packet.proofs.kind.Reads as Kind
use Rattle.packet.proofs.part_check.Reads as Check
use Rattle.packet.proofs.part.Reads as Part
use Rattle.lent.specs.Told.{Tells, told_said}
use Rattle.usb.specs.Reading.{read_of as usb_read_of}
use Rattle.usb.specs.Writing.{write_of as usb_write_of}
use Rattle.usb_reader.proofs.read.Reads as UsbRead
use Rattle.usb_reader.proofs.read_lent.Reads as UsbLent
use Rattle.usb_writer.proofs.write.Reads as UsbWrite
use Rattle.description.specs.Described.{described_said}
use Rattle.settings.proofs.settings.Reads as Settings
use Rattle.flexray.specs.Reading.{read_of as flexray_read_of}
use Rattle.flexray.specs.Writing.{write_of as flexray_write_of}
use Rattle.flexray_reader.proofs.read.Reads as FlexRayRead
use Rattle.flexray_reader.proofs.read_lent.Reads as FlexRayLent
use Rattle.flexray_writer.proofs.write.Reads as FlexRayWrite
use Rattle.udp.specs.Reading.{read_of as udp_read_of}
use Rattle.udp.specs.Writing.{write_of as udp_write_of}
use Rattle.udp_reader.proofs.read.Reads as UdpRead
use Rattle.udp_reader.proofs.read_lent.Reads as UdpLent
use Rattle.udp_writer.proofs.write.Reads as UdpWrite
use Rattle.lending.proofs.usb_lent.Reads as LendUsb
use Rattle.lending.proofs.flexray_lent.Reads as LendFlexRay
use Rattle.lending.proofs.udp_lent.Reads as LendUdp
use Rattle.spelling.specs.Put.{Reports}
use Rattle.rowtext.specs.Put.{Prepared}
use Rattle.rowtext.specs.Text.{program_text}
use Rattle.rowtext.proofs.report.Reads as Report
use Rattle.store.specs.Store.{Inside}
use Rattle.keywords.specs.Saying.{told as meant}
use Rattle.settingtext.specs.Text.{argument as argument_of, program_text as setting_text}
use Rattle.settingtext.proofs.argument.Reads as Argument
use Rattle.settingtext.proofs.report.Reads as SettingReport
use Rattle.plumagemud.specs.Result.{check_result, Reads, Writes}
use Rattle.plumagemud.proofs.xcp_usb_settings.Reads as CSettings
use Rattle.plumagemud.proofs.xcp_usb_read.Reads as CUsbRead
use Rattle.plumagemud.proofs.xcp_usb_write.Reads as CUsbWrite
use Rattle.plumagemud.proofs.xcp_flexray_read.Reads as CFlexRayRead
use Rattle.plumagemud.proofs.xcp_flexray_write.Reads as CFlexRayWrite
use Rattle.plumagemud.proofs.xcp_udp_read.Reads as CUdpRead
use Rattle.plumagemud.proofs.xcp_udp_write.Reads as CUdpWrite
use Rattle.plumagemud.proofs.xcp_part_check.Reads as CCheck
use Rattle.plumagemud.proofs.xcp_kind.Reads as CKind
use Rattle.promises.proofs.Description as Description
use Rattle.promises.proofs.DescriptionNumbers as DescriptionNumbers
use Rattle.promises.proofs.Usb as Usb
use Rattle.promises.proofs.Flexray as Flexray
use Rattle.promises.proofs.Udp as Udp

---- USB ------------------------------------------------------------------------------------------------------------------------

-- usb_reader::read
pub usb_read : (x : _) (a : _) (r : _) (e : _) → UsbRead.Asked x a
    × (UsbRead.Post x a r e → Usb.Reads a.0 a.1.0.now a.1.1.0 a.1.1.1.0.now (read_said r) e.1.1.1.0.now)
usb_read x a r e = (tt, λ p. p)

-- usb_writer::write
pub usb_write : (x : _) (a : _) (r : _) (e : _) → UsbWrite.Asked x a
    × (UsbWrite.Post x a r e → Usb.Writes a.0 a.1.0.now a.1.1.0.now a.1.1.1.0 a.1.1.1.1.0 a.1.1.1.1.1.0
    a.1.1.1.1.1.1.0.now (write_said r) e.1.1.1.1.1.1.0.now)
usb_write x a r e = (tt, λ p. p)

---- FlexRay --------------------------------------------------------------------------------------------------------------------

-- flexray_reader::read
pub flexray_read : (x : _) (a : _) (r : _) (e : _) → FlexRayRead.Asked x a
    × (FlexRayRead.Post x a r e → Flexray.Reads a.0 a.1.0.now a.1.1.0 a.1.1.1.0.now (read_said r) e.1.1.1.0.now)
flexray_read x a r e = (tt, λ p. p)

-- flexray_writer::write
pub flexray_write : (x : _) (a : _) (r : _) (e : _) → FlexRayWrite.Asked x a
    × (FlexRayWrite.Post x a r e → Flexray.Writes a.0 a.1.0.now a.1.1.0.now a.1.1.1.0 a.1.1.1.1.0
    a.1.1.1.1.1.0.now (write_said r) e.1.1.1.1.1.0.now)
flexray_write x a r e = (tt, λ p. p)

---- UDP ------------------------------------------------------------------------------------------------------------------------

-- udp_reader::read
pub udp_read : (x : _) (a : _) (r : _) (e : _) → UdpRead.Asked x a
    × (UdpRead.Post x a r e → Udp.Reads a.0 a.1.0.now a.1.1.0 a.1.1.1.0.now (read_said r) e.1.1.1.0.now)
udp_read x a r e = (tt, λ p. p)

-- udp_writer::write
pub udp_write : (x : _) (a : _) (r : _) (e : _) → UdpWrite.Asked x a
    × (UdpWrite.Post x a r e → Udp.Writes a.0 a.1.0.now a.1.1.0.now a.1.1.1.0 a.1.1.1.1.0.now
    (write_said r) e.1.1.1.1.0.now)
udp_write x a r e = (tt, λ p. p)

---- The description file -------------------------------------------------------------------------------------------------------

-- settings::settings
pub settings : (x : _) (a : _) (r : _) (e : _) → Settings.Asked x a × (Settings.Post x a r e → Description.Reads a.0.now a.1.0 (described_said r))
settings x a r e = (tt, λ p. p)

---- The state lent -------------------------------------------------------------------------------------------------------------

-- what is ensured of a state that is lent is this fact, and no more

-- usb_reader::read_lent
pub usb_lent : (x : _) (a : _) (r : _) (e : _) → UsbLent.Asked x a
    × (UsbLent.Post x a r e ≡ Tells (usb_read_of a.0 a.1.0.now a.1.1.0.now a.1.1.1.0.now) a.1.1.0.now (told_said r) e.1.1.0.now e.1.1.1.0.now)
usb_lent x a r e = (tt, refl)

-- flexray_reader::read_lent
pub flexray_lent : (x : _) (a : _) (r : _) (e : _) → FlexRayLent.Asked x a
    × (FlexRayLent.Post x a r e ≡ Tells (flexray_read_of a.0 a.1.0.now a.1.1.0.now a.1.1.1.0.now) a.1.1.0.now (told_said r) e.1.1.0.now e.1.1.1.0.now)
flexray_lent x a r e = (tt, refl)

-- udp_reader::read_lent
pub udp_lent : (x : _) (a : _) (r : _) (e : _) → UdpLent.Asked x a
    × (UdpLent.Post x a r e ≡ Tells (udp_read_of a.0 a.1.0.now a.1.1.0.now a.1.1.1.0.now) a.1.1.0.now (told_said r) e.1.1.0.now e.1.1.1.0.now)
udp_lent x a r e = (tt, refl)

-- lending's functions, which lend a state that they hold
pub lending_usb : (x : _) (a : _) (r : _) (e : _) → LendUsb.Asked x a
    × (LendUsb.Post x a r e → Tells (usb_read_of a.0 a.1.0.now a.1.1.0 a.1.1.1.0.now) a.1.1.0
    (told_said r.told) r.state e.1.1.1.0.now)
lending_usb x a r e = (tt, λ p. p)

pub lending_flexray : (x : _) (a : _) (r : _) (e : _) → LendFlexRay.Asked x a
    × (LendFlexRay.Post x a r e → Tells (flexray_read_of a.0 a.1.0.now a.1.1.0 a.1.1.1.0.now) a.1.1.0
    (told_said r.told) r.state e.1.1.1.0.now)
lending_flexray x a r e = (tt, λ p. p)

pub lending_udp : (x : _) (a : _) (r : _) (e : _) → LendUdp.Asked x a
    × (LendUdp.Post x a r e → Tells (udp_read_of a.0 a.1.0.now a.1.1.0 a.1.1.1.0.now) a.1.1.0
    (told_said r.told) r.state e.1.1.1.0.now)
lending_udp x a r e = (tt, λ p. p)

---- Packets --------------------------------------------------------------------------------------------------------------------

-- packet's Counter::fresh
pub counter-fresh : (x : _) (a : _) (r : _) (e : _) → Fresh.Asked x a × (Fresh.Post x a r e → r ≡ fresh)
counter-fresh x a r e = (tt, λ p. p)

-- packet::kind
pub kind : (x : _) (a : _) (r : _) (e : _) → Kind.Asked x a × (Kind.Post x a r e → kind_said r ≡ kind_of a.0 a.1.0.now)
kind x a r e = (tt, λ p. p)

-- packet::part_check
pub check : (x : _) (a : _) (r : _) (e : _) → Check.Asked x a × (Check.Post x a r e → check_said r ≡ check_of a.0.now a.1.0 a.1.1.0)
check x a r e = (tt, λ p. p)

-- packet::part
pub part : (x : _) (a : _) (r : _) (e : _) → Part.Asked x a × (Part.Post x a r e → r.now ≡ part_of a.0.now a.1.0 a.1.1.0)
part x a r e = (tt, λ p. p)

---- C --------------------------------------------------------------------------------------------------------------------------

-- xcp_usb_settings
pub c_settings : (x : _) (a : _) (r : _) (e : _) → CSettings.Asked x a × (CSettings.Post x a r e → DescriptionNumbers.Tells a.0.now a.1.0 r)
c_settings x a r e = (tt, λ p. p)

-- xcp_usb_read
pub c_usb_read : (x : _) (a : _) (r : _) (e : _) → CUsbRead.Asked x a
    × (CUsbRead.Post x a r e → Reads (usb_read_of a.0 a.1.0.now a.1.1.0 a.1.1.1.0.now) a.1.1.0 r e.1.1.1.0.now)
c_usb_read x a r e = (tt, λ p. p)

-- xcp_usb_write: filled up where the number is not 0
pub c_usb_write : (x : _) (a : _) (r : _) (e : _) → CUsbWrite.Asked x a
    × (CUsbWrite.Post x a r e → Writes (usb_write_of a.0 a.1.0.now a.1.1.0.now a.1.1.1.0 a.1.1.1.1.0
    (not (eqb a.1.1.1.1.1.0 0)) a.1.1.1.1.1.1.0.now) a.1.1.1.0 r e.1.1.1.1.1.1.0.now)
c_usb_write x a r e = (tt, λ p. p)

-- xcp_flexray_read
pub c_flexray_read : (x : _) (a : _) (r : _) (e : _) → CFlexRayRead.Asked x a
    × (CFlexRayRead.Post x a r e → Reads (flexray_read_of a.0 a.1.0.now a.1.1.0 a.1.1.1.0.now) a.1.1.0 r e.1.1.1.0.now)
c_flexray_read x a r e = (tt, λ p. p)

-- xcp_flexray_write
pub c_flexray_write : (x : _) (a : _) (r : _) (e : _) → CFlexRayWrite.Asked x a
    × (CFlexRayWrite.Post x a r e → Writes (flexray_write_of a.0 a.1.0.now a.1.1.0.now a.1.1.1.0 a.1.1.1.1.0
    a.1.1.1.1.1.0.now) a.1.1.1.0 r e.1.1.1.1.1.0.now)
c_flexray_write x a r e = (tt, λ p. p)

-- xcp_udp_read
pub c_udp_read : (x : _) (a : _) (r : _) (e : _) → CUdpRead.Asked x a
    × (CUdpRead.Post x a r e → Reads (udp_read_of a.0 a.1.0.now a.1.1.0 a.1.1.1.0.now) a.1.1.0 r e.1.1.1.0.now)
c_udp_read x a r e = (tt, λ p. p)

-- xcp_udp_write
pub c_udp_write : (x : _) (a : _) (r : _) (e : _) → CUdpWrite.Asked x a
    × (CUdpWrite.Post x a r e → Writes (udp_write_of a.0 a.1.0.now a.1.1.0.now a.1.1.1.0 a.1.1.1.1.0.now) a.1.1.1.0
    r e.1.1.1.1.0.now)
c_udp_write x a r e = (tt, λ p. p)

-- xcp_part_check
pub c_check : (x : _) (a : _) (r : _) (e : _) → CCheck.Asked x a
    × (CCheck.Post x a r e → r ≡ check_result (check_of a.0.now a.1.0 a.1.1.0))
c_check x a r e = (tt, λ p. p)

-- xcp_kind
pub c_kind : (x : _) (a : _) (r : _) (e : _) → CKind.Asked x a × (CKind.Post x a r e → r ≡ kind_of a.0 a.1.0.now)
c_kind x a r e = (tt, λ p. p)

---- The programs ---------------------------------------------------------------------------------------------------------------

-- report of rowtext and of settingtext are no entry points, but what the programs print comes from them. They ask for an output that is large enough, that of
-- rowtext for a table too, and no more
pub report : (x : _) (a : _) (r : _) (e : _) → (Report.Asked x a ≡ Prepared a.1.1.0.now a.1.0.now)
    × (Report.Post x a r e → Reports a.1.1.0.now (program_text a.0.now) e.1.1.0.now r)
report x a r e = (refl, λ p. p)

pub setting_report : (x : _) (a : _) (r : _) (e : _) → (SettingReport.Asked x a ≡ Inside a.1.1.0.now 0 149)
    × (SettingReport.Post x a r e → Reports a.1.1.0.now (setting_text a.0.now a.1.0) e.1.1.0.now r)
setting_report x a r e = (refl, λ p. p)

-- settingtext::argument
pub argument : (x : _) (a : _) (r : _) (e : _) → Argument.Asked x a × (Argument.Post x a r e → r ≡ meant (argument_of a.0 a.1.0.now))
argument x a r e = (tt, λ p. p)
