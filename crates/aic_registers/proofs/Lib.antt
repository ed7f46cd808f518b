-- Laws about the AT91 controller's registers.
pub mod CallLaws
